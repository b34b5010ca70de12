-- The entries of a report are right, and its text is read as the report of its entries.
use Rattle.std.proofs.Common.{◌≡◌, ◌∙◌, ℕ, ◌≤◌, ◌<◌, ◌^◌, List, [], ◌∷◌, ◌++◌, map, Some, None, Result, Ok, Err, zero, suc, refl, sym, ap, subst, arith}
use Rattle.std.specs.Prelude.{option_and_then}
use Rattle.std.specs.List.{AllByRecursion}
use Rattle.std.specs.Option.{option_map}
use Rattle.std.specs.Str.{IsUtf8}
use Rattle.std.proofs.lemmas.Bool.Decides.{nat_tests}
use Rattle.dns_data.specs.Name.{Labels, IsName}
use Rattle.dns_data.specs.declared.rr_type.RrType.{RrType}
use Rattle.net_model.specs.declared.class.Class.{Class}
use Rattle.net_model.specs.declared.class.Class.TheVariants.{Exact, Below}
use Rattle.net_model.specs.declared.walk.Walk.{Walk}
use Rattle.net_model.specs.Class.{IsRepresentative}
use Rattle.net_model.specs.Step.{Setting}
use Rattle.net_model.specs.Walk.{IsWalk, walk_along}
use Rattle.graph_form.specs.Report.{Subject, IsClass, IsEntry, IsReport}
use Rattle.graph_form.specs.declared.report.Report.{Report}
use Rattle.graph_form.specs.declared.report.ReportEntry.{ReportEntry}
use Rattle.meta_read.proofs.Values.{value_of-read}
use Rattle.serde_json.specs.Data.{Data}
use Rattle.serde_json.specs.Read.{read}
use Rattle.report_json.specs.Report.{entry_value, report_value, report_text}
use Rattle.report_json.proofs.TextsRead.{report_reads_back}
use Rattle.report_check.specs.Checked.{IsChecked}
use Rattle.report_check.specs.Laws.{IsWritable, IsUnrefused}
use Rattle.report_check.specs.ReportIn.{StatedReport, if_allowed, entries_in, report_in, report_of, rewrites_in}
use Rattle.report_check.specs.RightEntries.{IsRight}
use Rattle.report_check.specs.declared.answer.Checked.{Checked}
use Rattle.report_check.specs.declared.answer.Checked.TheVariants.{Right, Wrong}
use Rattle.report_check.specs.declared.answer.CheckFault.{CheckFault}
use Rattle.report_check.specs.declared.answer.CheckFault.TheVariants.{NotReport, Walks, NoMemory}
use Rattle.report_check.proofs.EntrySteps.{values_of_items}

-- ---- entries are right

are_walks : (setting : Setting) (query : Labels) (rtype : RrType) (paths : List (List ℕ)) (walks : List Walk) → map (walk_along setting query rtype) paths ≡ map Some walks
    → AllByRecursion (IsWalk setting query rtype) walks
are_walks setting query rtype [] [] e = tt
are_walks setting query rtype [] (walk ∷ walks) e = absurd cc
are_walks setting query rtype (path ∷ paths) [] e = tt
are_walks setting query rtype (path ∷ paths) (walk ∷ walks) e =
    let one : walk_along setting query rtype path ≡ Some walk = cc in
    ((path, one), are_walks setting query rtype paths walks cc)

represents_name : (subject : Subject) (class : Class) (query : Labels) → IsClass subject class → IsRepresentative subject.ground class query → IsName query
represents_name subject (Exact alone) query is stands = subst IsName (sym stands) is.is_name
represents_name subject (Below above) query is stands = stands.is_name

entry_right : (subject : Subject) (entry : ReportEntry) → IsEntry subject entry → IsRight subject.config subject.rewrites (entry_value entry)
entry_right subject entry is =
    record {
      entry = entry;
      is = refl;
      is_name = represents_name subject is.class entry.query is.shown.is_class is.shown.represents;
      followed = is.followed;
      in_force = is.in_force;
      shows = record {
        may = is.shown.shows.shows.may;
        are_walks = are_walks _ entry.query entry.seen.rtype is.paths entry.walks is.walks_show.are_walks;
        show = is.walks_show.show;
      };
      repeated = is.repeated;
    }

entries_right : (subject : Subject) (entries : List ReportEntry) → AllByRecursion (IsEntry subject) entries → AllByRecursion (IsRight subject.config subject.rewrites) (map entry_value entries)
entries_right subject [] each = tt
entries_right subject (entry ∷ entries) each = (entry_right subject entry each.0, entries_right subject entries each.1)

-- each entry of a report is right
pub report_right : (subject : Subject) (report : Report) → IsReport subject report → AllByRecursion (IsRight subject.config subject.rewrites) (map entry_value report.entries)
report_right subject report is = entries_right subject report.entries is.each_right

-- ---- the text is read

-- what is stated in a report
abbrev stated : Report → StatedReport
stated report = record { rewrites = report.rewrites; entries = map entry_value report.entries }

allowed : (number : ℕ) → 1 ≤ number → number ≤ 64 → if_allowed number ≡ Some number
allowed number some few = grind (arith, nat_tests)

rewrites_of : (report : Report) → 1 ≤ report.rewrites → report.rewrites ≤ 64 → rewrites_in (report_value report) ≡ Some report.rewrites
rewrites_of report some few = allowed report.rewrites some few

entries_of : (report : Report) → entries_in (report_value report) ≡ Some (map entry_value report.entries)
entries_of report = ap Some (values_of_items (map entry_value report.entries))

value_stated : (report : Report) → IsWritable report → report_of (report_value report) ≡ Some (stated report)
value_stated report writable =
    ap (option_and_then (λ (rewrites : ℕ). option_map (λ (entries : List Data). record { rewrites = rewrites; entries = entries }) (entries_in (report_value report))))
    (rewrites_of report writable.some writable.few)
    ∙ ap (option_map (λ (entries : List Data). record { rewrites = report.rewrites; entries = entries })) (entries_of report)

-- the text of a report that may be written is read as its limit of rewrites and the values of its entries
pub report_is_read : (report : Report) → IsWritable report → (octets : List ℕ) → octets ≡ report_text report → IsUtf8 octets
    → report_in octets ≡ Some (record { rewrites = report.rewrites; entries = map entry_value report.entries })
report_is_read report writable octets is text =
    let small : report.rewrites < 2 ^ 64 = omega (arith, writable.few) in
    ap (option_and_then report_of)
    (value_of-read octets (report_value report) text (ap read is ∙ report_reads_back report writable.classes writable.names small))
    ∙ value_stated report writable

-- ---- so it is answered

module _ (subject : Subject) (report : Report) (is : IsReport subject report) (writable : IsWritable report)
    (octets : List ℕ) (same_text : octets ≡ report_text report) (text : IsUtf8 octets) where
  read_so : (found : StatedReport) → report_in octets ≡ Some found → AllByRecursion (IsRight subject.config found.rewrites) found.entries
  read_so found e =
      let same : stated report ≡ found = by (sym (report_is_read report writable octets same_text text) ∙ e) in
      subst (λ (r : StatedReport). AllByRecursion (IsRight subject.config r.rewrites) r.entries) same
      (subst (λ (k : ℕ). AllByRecursion (IsRight subject.config k) (map entry_value report.entries)) (sym is.limit) (report_right subject report is))
    where
      by : Some (stated report) ≡ Some found → stated report ≡ found
      by e = cc

  -- the text of a report is answered by right entries, or for too many walks or `NoMemory`
  pub unrefused : (answer : Result Checked CheckFault) → IsChecked subject.config octets answer → IsUnrefused answer
  unrefused (Ok (Right entries)) checked = tt
  unrefused (Ok (Wrong entry)) (found, e, (few, first)) =
      first.is_so.0 (among first.before first.entry first.after (subst (AllByRecursion (IsRight subject.config found.rewrites)) first.splits (read_so found e)))
    where
      among : (before : List Data) (one : Data) (after : List Data) → AllByRecursion (IsRight subject.config found.rewrites) (before ++ one ∷ after) → IsRight subject.config found.rewrites one
      among [] one after each = each.0
      among (other ∷ before) one after each = among before one after each.1
  unrefused (Err NotReport) checked = by (sym (report_is_read report writable octets same_text text) ∙ checked) where
    by : Some (stated report) ≡ None → ⊥
    by e = cc
  unrefused (Err (Walks zero)) checked = tt
  unrefused (Err (Walks (suc before))) checked = tt
  unrefused (Err NoMemory) checked = tt
