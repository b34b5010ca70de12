-- What is told of a part of a configuration, whose names are read first.
use Rattle.std.specs.Prelude.{◌≡◌, ◌⊎◌, ℕ, List, ◌++◌, codes, decimal, Result, Ok, Err}
use Rattle.dns_data.specs.Name.{Labels}
use Rattle.dns_data.specs.Spelling.{name_text}
use Rattle.io_edges.specs.Files.{FilesTold}
use Rattle.config_load.specs.Conf.{conf_unless, row_skips}
use Rattle.config_load.specs.Limits.{largest_limits}
use Rattle.config_load.specs.Reading.{Reading, Reads, ◌>>=◌, file_octets}
use Rattle.config_load.specs.Refusal.{fields_line}
use Rattle.net_model.specs.declared.config.Config.{Config}
use Rattle.part_checks.specs.Rules.{Keeps}
use Rattle.part_checks.specs.Skipped.{is_skipped}
use Rattle.part_checks.specs.declared.fault.PartRule.{PartRule}
use Rattle.part_checks.specs.declared.fault.PartRule.TheVariants.{Met, Exists, Short, Apart, Alias, Redirects, Referral, Own, Away}
use Rattle.part_names.specs.PartNames.{names_in}
use Rattle.part_names.specs.declared.fault.NamesFault.{NamesFault}
use Rattle.part_names.specs.declared.fault.NamesFault.TheVariants.{Line, NoMemory}
use Rattle.part_names.specs.declared.names.PartNames.{PartNames}
use Rattle.part_run.specs.PartReported.{ReportsPart}
use Rattle.report_run.specs.declared.judging.CheckLimits.{CheckLimits}
use Rattle.run_endings.specs.Endings.{without_output}
use Rattle.run_endings.specs.declared.ending.Ending.{Ending}
use Rattle.run_endings.specs.declared.status.Status.TheVariants.{Refused}

-- the code of a rule, the word that is printed for it
abbrev pub rule_code : PartRule → List ℕ
rule_code Met = codes "unmet"
rule_code Exists = codes "exists"
rule_code Short = codes "short"
rule_code Apart = codes "apart"
rule_code Alias = codes "alias"
rule_code Redirects = codes "redirection"
rule_code Referral = codes "referral"
rule_code Own = codes "own"
rule_code Away = codes "away"

-- the run refuses the file of a part's names, since the rule is told not to hold of this name
abbrev pub IsBroken : List ℕ → PartRule → Labels → Ending → Type 0
IsBroken file rule name ending = ending ≡ without_output Refused (fields_line file (decimal 0) (rule_code rule ++ (codes " " ++ name_text name)))

-- the run refuses the file, since this line tells no name of a part
abbrev pub bad_line : List ℕ → ℕ → Ending
bad_line file line = without_output Refused (fields_line file (decimal line) (codes "bad-line"))

-- the names make no part of the configuration, since a rule doesn't hold, and the run says so
pub record IsRefusedPart (file : List ℕ) (config : Config) (names : PartNames) (ending : Ending) : Type 0 where
  pub rule : PartRule
  pub name : Labels
  pub fails : Keeps config names rule → ⊥
  pub says : IsBroken file rule name ending

-- what is told of the part that has these names: where all rules hold, its report, or the budget that is passed; else a
-- rule that doesn't hold
abbrev pub TellsPart : CheckLimits → List ℕ → Config → PartNames → Ending → Type 0
TellsPart limits file config names ending =
    (((rule : PartRule) → Keeps config names rule) × ReportsPart limits.classes limits.rewrites names config ending)
    ⊎ IsRefusedPart file config names ending

-- what is read for the part that has these names: the configuration of the metadata file, of which rows are skipped whose
-- zones have nothing that the part asks for but their origins
abbrev pub config_for : PartNames → List ℕ → FilesTold → Reading Config
config_for names meta = conf_unless (row_skips (is_skipped names)) largest_limits meta

-- what follows these names: the configuration that is read for them; where there are none, nothing more is read
abbrev pub behind_names : List ℕ → Result PartNames NamesFault → FilesTold → Reading (Result (PartNames × Config) NamesFault)
behind_names meta (Ok names) told = config_for names meta told >>= λ config. Reads (Ok (names, config))
behind_names meta (Err fault) told = Reads (Err fault)

-- What the files of a part give: the names that the file of this name tells, and, where it tells some, the configuration
-- that is read for them.
abbrev pub part_files : List ℕ → List ℕ → FilesTold → Reading (Result (PartNames × Config) NamesFault)
part_files meta file told = file_octets largest_limits file told >>= λ octets. behind_names meta (names_in octets) told

-- what is told by what the files of a part give
abbrev pub TellsRead : CheckLimits → List ℕ → Result (PartNames × Config) NamesFault → Ending → Type 0
TellsRead limits file (Ok (names, config)) ending = TellsPart limits file config names ending
TellsRead limits file (Err (Line line)) ending = ending ≡ bad_line file line
TellsRead limits file (Err NoMemory) ending = ⊥
