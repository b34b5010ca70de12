-- What is written of a part is the report of the part of the whole.
use Rattle.std.proofs.Common.{◌≡◌, ◌∙◌, ℕ, List, [], map, Contains, Result, Ok, Err, inl, inr, sym, refl, ap, subst}
use Rattle.std.specs.Prelude.{◌⊎◌, ◌↔◌}
use Rattle.dns_data.specs.Name.{Labels}
use Rattle.graph_form.specs.Report.{IsReport}
use Rattle.graph_form.specs.declared.report.Report.{Report}
use Rattle.graph_form.specs.declared.report.ReportEntry.{ReportEntry}
use Rattle.net_model.specs.Reading.{Ground, ground_of}
use Rattle.net_model.specs.Tree.{AreBelowClasses, HasMoreThan, IsInPart, IsTreePart}
use Rattle.net_model.specs.declared.class.Class.TheVariants.{Below}
use Rattle.net_model.specs.declared.config.Config.{Config}
use Rattle.label_graph.specs.Pairs.{AreSame}
use Rattle.query_classes.specs.Rows.{tree_names, below_names}
use Rattle.query_classes.proofs.SameGrounds.{in_part_same, more_same, represents_same, same_back}
use Rattle.query_verdicts.specs.Carried.{whole_config}
use Rattle.query_verdicts.specs.Kept.{IsKeptReport}
use Rattle.query_verdicts.specs.declared.kept.KeptReport.{KeptReport}
use Rattle.own_names.specs.OwnNames.{own_below, own_tree}
use Rattle.part_form.specs.PartText.{ClassedEntry}
use Rattle.part_laws.specs.Part.{restricted, with_prefixes}
use Rattle.part_laws.proofs.NamesAlike.{left_based_held}
use Rattle.part_names.specs.declared.names.PartNames.{PartNames}
use Rattle.part_reports.specs.Reported.{Reported}
use Rattle.report_run.specs.Budgets.{WithinNames, WithinStates}
use Rattle.report_run.specs.Judged.{IsJudged}
use Rattle.report_run.proofs.JudgedTrees.{with_report, without_report}
use Rattle.run_endings.specs.Endings.{no_memory, with_output}
use Rattle.run_endings.specs.declared.ending.Ending.{Ending}
use Rattle.part_run.specs.KeptEntry.{kept_entry}
use Rattle.part_run.specs.PartReported.{IsPartOf, IsPartReported, ReportsPart, faults_status}
use Rattle.part_run.specs.PartWritten.{EndsWritten}
use Rattle.part_run.specs.declared.entry.KeptEntry.{KeptEntry}
use Rattle.part_run.proofs.EntriesClassed.{classed_entries}
use Rattle.part_run.proofs.OwnTree.{own_names_are, own_same}

-- a part of a class tree is the same under grounds with the same names and redirections
tree_same : (one other : Ground) → AreSame one other → (above : Labels) (part : List Labels) → IsTreePart one above part → IsTreePart other above part
tree_same one other same above part is =
    record {
      ordered = is.ordered;
      all = λ name. (
        λ has. in_part_same one other same above name ((is.all name).0 has),
        λ inside. (is.all name).1 (in_part_same other one (same_back one other same) above name inside),
      );
    }

-- and so are the names below which there is a class that isn't empty
classes_same : (one other : Ground) → AreSame one other → (names below : List Labels) → AreBelowClasses one names below → AreBelowClasses other names below
classes_same one other same names below is =
    record {
      ordered = is.ordered;
      all = λ above. (
        λ has. (
            let (there, (name, stands)) = (is.all above).0 has in (
              there,
              (name, represents_same one other same (Below above) name stands),
            )),
        λ (there, (name, stands)). (is.all above).1 (there, (name, represents_same other one (same_back one other same) (Below above) name stands)),
      );
    }

module _ (whole : Config) (names : PartNames) (is : IsPartOf whole names (restricted (with_prefixes names.held) whole)) (rewrites : ℕ) where
  abbrev held : List Labels
  held = with_prefixes names.held

  abbrev left : Config
  left = restricted held whole

  -- the base names of what is left are the held names
  based : (name : Labels) → Contains (ground_of left).names name ↔ Contains held name
  based name = (left_based_held whole held is.part name, is.part.met name)

  module _ (graph : Ground) (same : AreSame graph (ground_of left)) where
    -- a run that ends with what is written of the report of what is left ends with the report of the part
    pub part_reported : (report : Report) → IsReport (whole_config left rewrites) report → (ending : Ending)
        → EndsWritten graph names rewrites report.entries ending → IsPartReported whole rewrites names ending
    part_reported report right ending ends =
        let text = ends.is_text in
        let written = text.written in
        let counts = text.are_counts in
        let rows = counts.rows in
        let reported : Reported = record { names = held; tree = own_tree names rows; below = own_below names rows; written = written } in
        record {
          reported = reported;
          is_report = record {
            part = is.part;
            held = λ name has own. is.own name has (own_same names written.from written.to text.from_is text.to_is name ∙ own);
            own_names = own_names_are names (ground_of left) based rows
                (tree_same graph (ground_of left) same [] (tree_names rows) counts.tree)
                (classes_same graph (ground_of left) same (tree_names rows) (below_names rows) counts.below)
                reported text.from_is text.to_is refl refl;
            entries = classed_entries left rewrites graph same report right written.entries text.entries_are text.classes;
            classes = text.classes_are ∙ counts.classes_are;
            names_are = text.names_are ∙ counts.names_are;
            limit = text.limit;
            readable = text.readable;
          };
          names_are = refl;
          from_is = text.from_is;
          to_is = text.to_is;
          as_text =
              ends.as_text
              ∙ ap (λ (entries : List ReportEntry). with_output (faults_status entries) ends.text) (sym text.entries_are)
              ∙ ap (with_output (faults_status (map (λ (c : ClassedEntry). c.entry) written.entries))) text.text_is;
        }

-- ---- what is left, as it was found

module _ (whole : Config) (names : PartNames) (left : Config) (is : IsPartOf whole names left) (rewrites : ℕ) where
  -- what is told within the budgets of what is left is told within those of the part
  within_part : (limit : ℕ) (P : Type 0) (ending : Ending) → WithinNames left limit (WithinStates left rewrites P ending) ending ⊎ (ending ≡ no_memory)
      → WithinNames (restricted (with_prefixes names.held) whole) limit (WithinStates (restricted (with_prefixes names.held) whole) rewrites P ending) ending ⊎ (ending ≡ no_memory)
  within_part limit P ending = subst (λ (config : Config). WithinNames config limit (WithinStates config rewrites P ending) ending ⊎ (ending ≡ no_memory)) is.left_is

  -- a run that ends with what is written of what is kept of the report of what is left ends with the report of the part, or
  -- memory ran out
  pub with_part : (graph : Ground) → AreSame graph (ground_of left) → (limit : ℕ) (told : KeptReport KeptEntry) → IsJudged limit (whole_config left rewrites) kept_entry (Ok told)
      → (ending : Ending)
      → ((entries : List ReportEntry) → told.kept ≡ map kept_entry entries → (HasMoreThan (IsInPart graph []) limit → ⊥)
      → EndsWritten graph names told.rewrites entries ending ⊎ (ending ≡ no_memory))
      → ReportsPart limit rewrites names whole ending ⊎ (ending ≡ no_memory)
  with_part graph same limit told judged ending ends =
      within_part limit (IsPartReported whole rewrites names ending) ending
      (with_report limit rewrites left (IsPartReported whole rewrites names ending) ending kept_entry told judged by)
    where
      by : IsKeptReport (whole_config left rewrites) kept_entry told → IsPartReported whole rewrites names ending ⊎ (ending ≡ no_memory)
      by kept =
          elim (ends kept.report.entries kept.keeps.entries (λ more. judged.0 (more_same graph (ground_of left) same [] limit more))) [
            | inl written ↦ inl (part_reported whole names (record { left_is = refl; part = is.part; own = is.own }) rewrites graph
                (subst (λ (config : Config). AreSame graph (ground_of config)) is.left_is same) kept.report
                (subst (λ (config : Config). IsReport (whole_config config rewrites) kept.report) is.left_is kept.is_report) ending
                (subst (λ (n : ℕ). EndsWritten graph names n kept.report.entries ending) (kept.keeps.rewrites ∙ kept.is_report.limit) written))
            | inr ran_out ↦ inr ran_out
          ]

  -- a run that ends without that report passes a budget of the part, or memory ran out
  pub without_part : (limit : ℕ) (ending : Ending) → (let judged : Result (KeptReport KeptEntry) Ending = Err ending in IsJudged limit (whole_config left rewrites) kept_entry judged)
      → ReportsPart limit rewrites names whole ending ⊎ (ending ≡ no_memory)
  without_part limit ending judged =
      within_part limit (IsPartReported whole rewrites names ending) ending
      (without_report limit rewrites left (IsPartReported whole rewrites names ending) ending kept_entry judged)
