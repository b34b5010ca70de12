-- Rows of zones that are made already. The contracts of inner calls alone cite it.
use Rattle.std.specs.List.{AllZip}
use Rattle.net_model.specs.declared.config.Config.{Config}
use Rattle.net_model.specs.declared.deps.Deps.{Deps}
use Rattle.zone_lookup.specs.CutTable.{IsZoneRow}
use Rattle.zone_lookup.specs.declared.zone_cuts.MadeRows.{MadeRows}

-- beside each tree stands the row of its zone
abbrev pub AreMade : Config → Deps → MadeRows → Type 0
AreMade config deps made = AllZip (IsZoneRow config deps) made.trees.now made.rows.items
