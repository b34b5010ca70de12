-- The merged text of the reports of parts is the text of the whole's report.
use Rattle.std.proofs.Common.{◌≡◌, ◌≢◌, ◌∙◌, ℕ, ◌+◌, true, List, [], ◌∷◌, ◌++◌, map, length, Contains, Some, None, codes, sym, refl, ap, subst}
use Rattle.std.specs.Prelude.{not, ◌==◌, sum_by}
use Rattle.std.proofs.lemmas.List.{length-map}
use Rattle.std.proofs.lemmas.List.Folds.{flat_map-map}
use Rattle.std.proofs.lemmas.Simd.{map-map}
use Rattle.dns_data.specs.Name.{Labels}
use Rattle.dns_data.proofs.Membership.{from_map, each_along}
use Rattle.dns_data.proofs.NameOrder.{pairs_from_rising}
use Rattle.graph_form.specs.FirstFaults.{AreFirsts}
use Rattle.graph_form.specs.Report.{IsReport}
use Rattle.graph_form.specs.declared.report.Report.{Report}
use Rattle.net_model.specs.declared.config.Config.{Config}
use Rattle.net_model.specs.Reading.{ground_of}
use Rattle.report_json.specs.Report.{entry_value, report_value, report_text}
use Rattle.report_json.proofs.PlainValues.{report_no_float}
use Rattle.serde_json.specs.Data.{Data}
use Rattle.serde_json.specs.Written.{compact_text, has_float}
use Rattle.part_form.specs.declared.fault.MergeFault.TheVariants.{NotLast}
use Rattle.part_form.specs.declared.merging.MergedText.{MergedText}
use Rattle.part_form.specs.Merging.{apart, first_rewrites, all_entries, merged_of, stated_fault, stated_order, IsMergedText}
use Rattle.part_form.specs.PartText.{ClassedEntry}
use Rattle.part_form.specs.Stated.{EntryStated, PartStated}
use Rattle.part_form.specs.Written.{entry_read, part_read}
use Rattle.part_form.proofs.HeldParts.{flat_mapped, sum_mapped}
use Rattle.query_verdicts.specs.Carried.{whole_config}
use Rattle.part_laws.specs.Part.{restricted, IsPart}
use Rattle.part_reports.specs.Bounds.{is_within, parted_at}
use Rattle.part_reports.specs.Gathered.{AreClassedEntriesOf, entries_of_all, gathered_report_of}
use Rattle.part_reports.specs.Owned.{AreOwnNames, AnswerForAll}
use Rattle.part_reports.specs.PartReport.{PartReport}
use Rattle.part_reports.specs.Reported.{Reported, report_of, IsReportOf, AreReportsOf, MergesToWhole, all_read, bounds_of}
use Rattle.part_reports.proofs.ByBounds.{own_once}
use Rattle.part_reports.proofs.Chosen.{FirstWritten, first_written}
use Rattle.part_reports.proofs.Counts.{sum_same}
use Rattle.part_reports.proofs.Following.{Follow, follows}
use Rattle.part_reports.proofs.WholeReport.{whole_report}

-- how many rewrites a query may use, by reports of one number
pub first_rewrites_are : (config : Config) (rewrites : ℕ) (reports : List Reported) → AreReportsOf config rewrites reports → reports ≢ []
    → first_rewrites (all_read reports) ≡ rewrites
first_rewrites_are config rewrites [] right some = absurd (some refl)
first_rewrites_are config rewrites (r ∷ rs) right some = right.0.limit

module _ (config : Config) (rewrites : ℕ) (reports : List Reported) (right : AreReportsOf config rewrites reports) where
  each_right : (reported : Reported) → Contains reports reported → IsReportOf config rewrites reported
  each_right = each_along (IsReportOf config rewrites) reports right

  -- the parts with their reports
  abbrev parts : List PartReport
  parts = map report_of reports

  -- what is told of each report
  abbrev told : List PartStated
  told = all_read reports

  -- a sum of numbers that are read
  sum_told : (f : PartStated → ℕ) → sum_by f told ≡ sum_by (λ (r : Reported). f (part_read r.written)) reports
  sum_told f = sum_mapped f (λ (r : Reported). part_read r.written) reports

  -- the entries that were read
  entries_told : all_entries told ≡ map entry_read (entries_of_all parts)
  entries_told =
      flat_map-map (λ (p : PartStated). p.entries) (λ (r : Reported). part_read r.written) reports
      ∙ sym (flat_mapped (λ (r : Reported). r.written.entries) entry_read reports)
      ∙ ap (map entry_read) (sym (flat_map-map (λ (p : PartReport). p.entries) report_of reports))

  module _ (merged : MergedText) (is : IsMergedText told merged) where
    follow : Follow None told
    follow = follows (first_rewrites told) 0 None told is.together

    -- each part's own names are those of one of the intervals
    owns : map (λ (part : PartReport). part.own) parts ≡ map is_within (parted_at None follow.cuts)
    owns =
        map-map (λ (part : PartReport). part.own) report_of reports
        ∙ sym (map-map is_within (λ (r : Reported). bounds_of (part_read r.written)) reports)
        ∙ ap (map is_within) (sym (map-map bounds_of (λ (r : Reported). part_read r.written) reports) ∙ follow.bounds)

    answer : AnswerForAll config parts
    answer =
        record {
          each = λ part has. (let (reported, among, made) = from_map report_of reports part has in
              subst (λ (p : PartReport). IsPart config p.names) made (each_right reported among).part);
          once = λ name based. own_once follow.cuts (pairs_from_rising follow.cuts follow.rising) parts owns name;
          held = λ part has. (let (reported, among, made) = from_map report_of reports part has in
              subst (λ (p : PartReport). (name : Labels) → Contains (ground_of config).names name → p.own name ≡ true → Contains p.names name) made
              (each_right reported among).held);
        }

    own_names : (part : PartReport) → Contains parts part → AreOwnNames (ground_of (restricted part.names config)) part
    own_names part has =
        let (reported, among, made) = from_map report_of reports part has in
        subst (λ (p : PartReport). AreOwnNames (ground_of (restricted p.names config)) p) made (each_right reported among).own_names

    own_entries : (part : PartReport) → Contains parts part → AreClassedEntriesOf (whole_config (restricted part.names config) rewrites) part.entries
    own_entries part has =
        let (reported, among, made) = from_map report_of reports part has in
        subst (λ (p : PartReport). AreClassedEntriesOf (whole_config (restricted p.names config) rewrites) p.entries) made (each_right reported among).entries

    abbrev firsts : FirstWritten (entries_of_all parts) is.first
    firsts = first_written (entries_of_all parts) is.first (subst (λ (es : List EntryStated). AreFirsts stated_fault stated_order es is.first) entries_told is.are_first)

    -- the report of the whole
    abbrev whole : Report
    whole = gathered_report_of rewrites parts firsts.gathered

    is_whole : IsReport (whole_config config rewrites) whole
    is_whole = whole_report config rewrites parts answer own_names own_entries firsts.gathered firsts.are

    -- ---- the values

    classes_are : sum_by (λ (part : PartStated). part.classes) told ≡ whole.classes
    classes_are =
        sum_told (λ (p : PartStated). p.classes)
        ∙ sum_same (λ (r : Reported). r.written.classes) (λ (r : Reported). length r.tree + length r.below) reports (λ r has. (each_right r has).classes)
        ∙ sym (sum_mapped (λ (part : PartReport). length part.tree + length part.below) report_of reports)

    names_are : sum_by (λ (part : PartStated). part.names) told ≡ whole.names
    names_are =
        sum_told (λ (p : PartStated). p.names)
        ∙ sum_same (λ (r : Reported). r.written.names) (λ (r : Reported). length r.tree) reports (λ r has. (each_right r has).names_are)
        ∙ sym (sum_mapped (λ (part : PartReport). length part.tree) report_of reports)

    rewrites_are : first_rewrites told ≡ rewrites
    rewrites_are =
        first_rewrites_are config rewrites reports right
        (λ none. (let nothing : Some NotLast ≡ None = ap (λ (rs : List Reported). apart (all_read rs)) (sym none) ∙ is.together in absurd (cc)))

    values_are : map (λ (entry : EntryStated). entry.value) is.first ≡ map entry_value whole.entries
    values_are =
        ap (map (λ (e : EntryStated). e.value)) (sym firsts.read)
        ∙ map-map (λ (e : EntryStated). e.value) entry_read firsts.gathered
        ∙ sym (map-map entry_value (λ (c : ClassedEntry). c.entry) firsts.gathered)

    value_is : merged_of told is.first ≡ report_value whole
    value_is = rw (classes_are, names_are, rewrites_are, values_are) refl

    text_whole : merged.text ≡ report_text whole
    text_whole =
        is.text_is (ap has_float value_is ∙ report_no_float whole) ∙ ap (λ (value : Data). compact_text value ++ codes "\n") value_is

    as_many : length is.first ≡ length whole.entries
    as_many =
        ap length (sym firsts.read) ∙ length-map firsts.gathered entry_read
        ∙ sym (length-map firsts.gathered (λ (c : ClassedEntry). c.entry))

    faults_whole : merged.has_faults ≡ not (length whole.entries == 0)
    faults_whole = is.faults_are ∙ ap (λ (n : ℕ). not (n == 0)) as_many

    -- what is merged is the report of the whole
    pub merged_whole : MergesToWhole config rewrites merged
    merged_whole = record { report = whole; is_report = is_whole; text = text_whole; faults = faults_whole }
