-- A reading behind that of a configuration.
use Rattle.std.proofs.Common.{◌≡◌, ℕ, List, sym, subst}
use Rattle.std.proofs.Math.Nat.{le_refl}
use Rattle.config_load.proofs.Steady.{conf_is_steady, reads_later, comes_first, comes_second, opens_first, second_behind}
use Rattle.config_load.specs.Load.{ComesToFile, OpensNoOther}
use Rattle.config_load.specs.Reading.{Reading, Reads, both}
use Rattle.io_edges.specs.Counts.{NoneFell}
use Rattle.io_edges.specs.Files.{FilesTold, StaysTold}
use Rattle.net_model.specs.declared.config.Config.{Config}
use Rattle.run_endings.proofs.AsAsked.{ends_weaker}
use Rattle.run_endings.specs.Ends.{EndsOrFails}
use Rattle.groot_line.specs.declared.program.Program.{Program}
use Rattle.groot_run.specs.JobEnds.{EndsWithoutConfig}
use Rattle.groot_run.specs.Programs.{conf_of, limits_of}
use Rattle.run_endings.specs.Endings.{OfReading}
use Rattle.run_endings.specs.declared.ending.Ending.{Ending}

-- where the first files give no configuration, no file is opened but those to which both readings come
pub opens_neither : {T : Type 0} (program : Program) (meta : List ℕ) (second : FilesTold → Reading T) (before after : FilesTold) → OpensNoOther (conf_of program meta) before after → OpensNoOther (both (conf_of program meta) second) before after
opens_neither program meta second = opens_first (conf_of program meta) (second_behind (conf_of program meta) second)

module _ {T : Type 0} (program : Program) (meta : List ℕ) (second : FilesTold → Reading T) (of_config : Config → Ending → Type 0) (ending : Ending) where
  -- a run that read its configuration ends by the configuration, or as the second reading says
  pub over_both : (between told : FilesTold) (before middle after : List ℕ → ℕ) (config : Config) → conf_of program meta between ≡ Reads config → StaysTold between told → NoneFell before middle
      → EndsOrFails (of_config config ending) (ComesToFile second told) middle after ending
      → EndsOrFails (OfReading meta of_config (conf_of program meta told) ending) (ComesToFile (both (conf_of program meta) second) told) before after ending
  over_both between told before middle after config reads stays none =
      ends_weaker before middle after ending none (λ outcome. subst (λ (read : Reading Config). OfReading meta of_config read ending) (sym later) outcome)
      (λ file comes. comes_second (conf_of program meta) second (conf_is_steady (limits_of program) meta) told config file later comes)
    where
      later : conf_of program meta told ≡ Reads config
      later = reads_later (conf_is_steady (limits_of program) meta) between told config stays reads

  -- a run to which the first files give no configuration ends as one over both readings does
  pub over_neither : (told : FilesTold) (before after : List ℕ → ℕ) → EndsWithoutConfig program meta told before after ending
      → EndsOrFails (OfReading meta of_config (conf_of program meta told) ending) (ComesToFile (both (conf_of program meta) second) told) before after ending
  over_neither told before after =
      ends_weaker before before after ending (λ file. le_refl (before file)) (λ (fault, refuses, is). subst (λ (read : Reading Config). OfReading meta of_config read ending) (sym refuses) is)
      (λ file comes. comes_first (conf_of program meta) (second_behind (conf_of program meta) second) told file comes)
