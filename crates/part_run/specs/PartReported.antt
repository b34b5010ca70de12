-- What is told of a part of a configuration, the whole.
use Rattle.std.specs.Prelude.{◌≡◌, ℕ, true, List, [], ◌∷◌, map, Contains}
use Rattle.dns_data.specs.Name.{Labels}
use Rattle.graph_form.specs.declared.report.ReportEntry.{ReportEntry}
use Rattle.net_model.specs.Reading.{ground_of}
use Rattle.net_model.specs.declared.config.Config.{Config}
use Rattle.part_form.specs.PartText.{WrittenPart, part_text}
use Rattle.part_laws.specs.Part.{IsPart, restricted, with_prefixes}
use Rattle.part_names.specs.PartNames.{is_own}
use Rattle.part_names.specs.declared.names.PartNames.{PartNames}
use Rattle.part_reports.specs.Reported.{Reported, IsReportOf}
use Rattle.report_run.specs.Budgets.{WithinNames, WithinStates}
use Rattle.run_endings.specs.Endings.{with_output}
use Rattle.run_endings.specs.declared.ending.Ending.{Ending}
use Rattle.run_endings.specs.declared.status.Status.{Status}
use Rattle.run_endings.specs.declared.status.Status.TheVariants.{Clean, Faults}

-- these names make a part of the whole, which holds its own base names, and this is left where they are held
pub record IsPartOf (whole : Config) (names : PartNames) (left : Config) : Type 0 where
  pub left_is : left ≡ restricted (with_prefixes names.held) whole
  pub part : IsPart whole (with_prefixes names.held)
  pub own : (name : Labels) → Contains (ground_of whole).names name → is_own names name ≡ true → Contains (with_prefixes names.held) name

-- the status of a report that has these entries
abbrev pub faults_status : List ReportEntry → Status
faults_status [] = Clean
faults_status (entry ∷ entries) = Faults

-- the run ends with what is written of a part
abbrev pub with_part : WrittenPart → Ending
with_part written = with_output (faults_status (map (λ classed. classed.entry) written.entries)) (part_text written)

-- the run ends with the report of the part of the whole that has these names
pub record IsPartReported (whole : Config) (rewrites : ℕ) (names : PartNames) (ending : Ending) : Type 0 where
  pub reported : Reported
  pub is_report : IsReportOf whole rewrites reported
  pub names_are : reported.names ≡ with_prefixes names.held
  pub from_is : reported.written.from ≡ names.from
  pub to_is : reported.written.to ≡ names.to
  pub as_text : ending ≡ with_part reported.written

-- what is told of a part: its report, unless the class tree of what is left has too many names, or a representative there
-- reaches too many pairs of state and type
abbrev pub ReportsPart : ℕ → ℕ → PartNames → Config → Ending → Type 0
ReportsPart limit rewrites names whole ending =
    WithinNames (restricted (with_prefixes names.held) whole) limit
    (WithinStates (restricted (with_prefixes names.held) whole) rewrites (IsPartReported whole rewrites names ending) ending) ending
