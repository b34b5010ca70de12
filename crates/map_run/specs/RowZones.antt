-- For the code alone, no public clause cites it: a row with its zone.
use Rattle.std.specs.Prelude.{[]}
use Rattle.net_model.specs.declared.config.Zone.{Zone}
use Rattle.net_model.specs.declared.deps.Deps.{Deps}
use Rattle.config_load.specs.declared.loaded.RowFiles.{RowFiles}

-- a row, and the zone that it names
pub record ZoneOfRow : Type 0 where
  pub row : RowFiles
  pub zone : Zone

-- sets of learnt addresses without a name
abbrev pub no_deps : Deps
no_deps = record { least = []; greatest = [] }
