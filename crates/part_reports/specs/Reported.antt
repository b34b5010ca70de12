-- Reports of parts that answer for a configuration, as they are written.
use Rattle.std.specs.Prelude.{◌≡◌, ℕ, ◌+◌, ◌<◌, ◌^◌, true, not, ◌==◌, List, map, length, sum_by, Contains, None}
use Rattle.std.specs.List.{AllByRecursion}
use Rattle.dns_data.specs.Name.{Labels, AreInOrder}
use Rattle.graph_form.specs.Report.{IsReport}
use Rattle.graph_form.specs.declared.report.Report.{Report}
use Rattle.net_model.specs.declared.config.Config.{Config}
use Rattle.net_model.specs.Reading.{ground_of}
use Rattle.part_form.specs.PartText.{WrittenPart}
use Rattle.part_form.specs.Stated.{PartStated}
use Rattle.part_form.specs.Written.{IsReadable, part_read}
use Rattle.part_form.specs.declared.merging.MergedText.{MergedText}
use Rattle.part_laws.specs.Part.{restricted, IsPart}
use Rattle.query_verdicts.specs.Carried.{whole_config}
use Rattle.report_json.specs.Report.{report_text}
use Rattle.part_reports.specs.Bounds.{Bounds, is_within, parted_at}
use Rattle.part_reports.specs.Gathered.{AreClassedEntriesOf}
use Rattle.part_reports.specs.Owned.{AreOwnNames}
use Rattle.part_reports.specs.PartReport.{PartReport}

-- a part's held names, its own names of the class tree, those of them below which there is a class that isn't empty, and
-- what is written of it
pub record Reported : Type 0 where
  pub names : List Labels
  pub tree : List Labels
  pub below : List Labels
  pub written : WrittenPart

-- the part and its report: its own names are those within the written bounds
abbrev pub report_of : Reported → PartReport
report_of reported =
    record {
      names = reported.names;
      own = is_within (record { from = reported.written.from; to = reported.written.to });
      tree = reported.tree;
      below = reported.below;
      entries = reported.written.entries;
    }

-- What is written is the report of a part of the configuration, which holds its own base names; and it can be read.
pub record IsReportOf (config : Config) (rewrites : ℕ) (reported : Reported) : Type 0 where
  pub part : IsPart config reported.names
  pub held : (name : Labels) → Contains (ground_of config).names name → (report_of reported).own name ≡ true → Contains reported.names name
  pub own_names : AreOwnNames (ground_of (restricted reported.names config)) (report_of reported)
  pub entries : AreClassedEntriesOf (whole_config (restricted reported.names config) rewrites) reported.written.entries
  pub classes : reported.written.classes ≡ length reported.tree + length reported.below
  pub names_are : reported.written.names ≡ length reported.tree
  pub limit : reported.written.rewrites ≡ rewrites
  pub readable : IsReadable reported.written

-- each is the report of a part of the configuration
abbrev pub AreReportsOf : Config → ℕ → List Reported → Type 0
AreReportsOf config rewrites reports = AllByRecursion (IsReportOf config rewrites) reports

-- what is read of their texts
abbrev pub all_read : List Reported → List PartStated
all_read reports = map (λ reported. part_read reported.written) reports

-- the bounds that a report states
abbrev pub bounds_of : PartStated → Bounds
bounds_of part = record { from = part.from; to = part.to }

-- The reports stand in order: each begins where the one before it ends, at rising names, from the root to the end; and 64
-- bits count all their classes and names.
pub record StandInOrder (reports : List Reported) : Type 0 where
  pub cuts : List Labels
  pub rising : AreInOrder cuts
  pub bounds : map bounds_of (all_read reports) ≡ parted_at None cuts
  pub classes : sum_by (λ part. part.classes) (all_read reports) < 2 ^ 64
  pub names : sum_by (λ part. part.names) (all_read reports) < 2 ^ 64

-- what is merged is the report of the whole: its text, and whether it has an entry
pub record MergesToWhole (config : Config) (rewrites : ℕ) (merged : MergedText) : Type 0 where
  pub report : Report
  pub is_report : IsReport (whole_config config rewrites) report
  pub text : merged.text ≡ report_text report
  pub faults : merged.has_faults ≡ not (length report.entries == 0)
