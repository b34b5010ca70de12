-- How walks end, what they ask last, and whether they are rewritten.
use Rattle.std.specs.Prelude.{◌-◌, Bool, true, false, List, [], ◌∷◌, length, Option, slice_get, if◌then◌else◌}
use Rattle.std.specs.List.{list_any}
use Rattle.std.specs.Option.{option_map_or}
use Rattle.net_model.specs.declared.walk.Hop.{Hop}
use Rattle.net_model.specs.declared.walk.Hop.TheVariants.{Refer, Rewrite}
use Rattle.net_model.specs.declared.walk.Leaf.{Leaf}
use Rattle.net_model.specs.declared.walk.State.{State}
use Rattle.net_model.specs.declared.walk.Walk.{Walk}
use Rattle.net_model.specs.Shown.{is_authoritative}
use Rattle.plain_resolver.specs.declared.walk_end.WalkEnd.{WalkEnd}
use Rattle.plain_resolver.specs.declared.walk_end.ZoneEnd.{ZoneEnd}

-- the hop is a rewrite of the name
abbrev pub is_rewrite : Hop → Bool
is_rewrite (Refer cut) = false
is_rewrite (Rewrite place by_dname to) = true

-- the end of a walk, and whether some hop of it is a rewrite
abbrev pub end_of : Walk → WalkEnd
end_of walk = record { leaf = walk.leaf; rewritten = list_any is_rewrite walk.hops }

-- the last of some states
abbrev pub last_state : List State → Option State
last_state states = slice_get states (length states - 1)

-- what is asked last in the state, if the leaf tells what a zone has for the name
abbrev pub zone_ends_at : Leaf → State → List ZoneEnd
zone_ends_at leaf state = if is_authoritative leaf then record { server = state.server; name = state.name } ∷ [] else []

-- what the walk asks last, if it ends in what a zone tells
abbrev pub zone_ends_of : Walk → List ZoneEnd
zone_ends_of walk = option_map_or (zone_ends_at walk.leaf) (last_state walk.states) []
