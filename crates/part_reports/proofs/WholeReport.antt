-- The gathered report of parts that answer for the whole is the whole's.
use Rattle.std.proofs.Common.{ℕ, ◌+◌, List, length, Contains}
use Rattle.std.specs.Prelude.{sum_by}
use Rattle.graph_form.specs.FirstFaults.{AreFirsts}
use Rattle.graph_form.specs.Report.{IsReport}
use Rattle.net_model.specs.declared.config.Config.{Config}
use Rattle.net_model.specs.Reading.{ground_of}
use Rattle.part_laws.specs.Part.{restricted}
use Rattle.query_verdicts.specs.Carried.{whole_config}
use Rattle.part_reports.specs.Gathered.{AreClassedEntriesOf, entries_of_all, entry_fault, class_order, gathered_report_of}
use Rattle.part_reports.specs.Owned.{AreOwnNames, AnswerForAll}
use Rattle.part_form.specs.PartText.{ClassedEntry}
use Rattle.part_reports.specs.PartReport.{PartReport}
use Rattle.part_reports.proofs.GatheredEntries.{gathered_report}
use Rattle.part_reports.proofs.Sizes.{whole_size, parts_cover}

-- where parts answer for the whole, and each has its own names and its entries, what is gathered is the report of the whole
pub whole_report : (config : Config) (rewrites : ℕ) (parts : List PartReport) → AnswerForAll config parts
    → ((part : PartReport) → Contains parts part → AreOwnNames (ground_of (restricted part.names config)) part)
    → ((part : PartReport) → Contains parts part → AreClassedEntriesOf (whole_config (restricted part.names config) rewrites) part.entries)
    → (gathered : List ClassedEntry) → AreFirsts entry_fault class_order (entries_of_all parts) gathered
    → IsReport (whole_config config rewrites) (gathered_report_of rewrites parts gathered)
whole_report config rewrites parts answer own_names reported gathered are =
    gathered_report config rewrites parts (parts_cover config parts answer) reported gathered are
    (sum_by (λ (part : PartReport). length part.tree) parts) (sum_by (λ (part : PartReport). length part.tree + length part.below) parts)
    (whole_size config parts answer own_names)
