-- The faults that one walk shows by itself, one after the other: for the contracts of inner calls alone.
use Rattle.std.specs.Prelude.{List, ◌++◌}
use Rattle.std.specs.List.{flat_map}
use Rattle.graph_form.specs.EndFaults.{if_picked, is_shown, walk_fault}
use Rattle.net_model.specs.declared.config.Config.{Config}
use Rattle.net_model.specs.declared.deps.Deps.{Deps}
use Rattle.net_model.specs.declared.fault.Fault.{Fault}
use Rattle.net_model.specs.declared.walk.Walk.{Walk}
use Rattle.zone_lookup.specs.ReferralFaults.{hop_faults}

-- the faults of a walk, but those of two walks
abbrev pub walk_faults : Config → Deps → Walk → List Fault
walk_faults config deps walk = flat_map (hop_faults config deps) walk.hops ++ if_picked (is_shown deps) (walk_fault walk)
