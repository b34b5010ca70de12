-- Which fault a walk shows by its end: told of the place of its last rewrite, its last hop and its leaf.
use Rattle.std.specs.Prelude.{◌-◌, Bool, true, false, not, List, [], ◌∷◌, length, Option, Some, None, option_map, option_and_then, slice_get, if◌then◌else◌}
use Rattle.dns_data.specs.Name.{Labels, is_among, name_eq}
use Rattle.net_model.specs.declared.deps.Deps.{Deps}
use Rattle.net_model.specs.declared.fault.Fault.{Fault}
use Rattle.net_model.specs.declared.fault.Fault.TheVariants as faults
use Rattle.net_model.specs.declared.place.Cut.{Cut}
use Rattle.net_model.specs.declared.place.Place.{Place}
use Rattle.net_model.specs.declared.walk.Hop.{Hop}
use Rattle.net_model.specs.declared.walk.Hop.TheVariants.{Refer}
use Rattle.net_model.specs.declared.walk.Leaf.{Leaf}
use Rattle.net_model.specs.declared.walk.Leaf.TheVariants as leaves
use Rattle.net_model.specs.declared.walk.State.{State}
use Rattle.net_model.specs.declared.walk.Walk.{Walk}
use Rattle.net_model.specs.Tails.{is_overlong}
use Rattle.graph_form.specs.declared.end_faults.EndFault.{EndFault}
use Rattle.graph_form.specs.declared.end_faults.EndFault.TheVariants as ends
use Rattle.graph_form.specs.declared.node.Branch.{Branch}
use Rattle.graph_form.specs.declared.node.Branch.TheVariants.{Go, End}

-- the name server of the delegation to which the hop is a referral, if it has this name
abbrev pub referral_to : Labels → Option Hop → Option Cut
referral_to ns (Some (Refer cut)) = if name_eq cut.ns ns then Some cut else None
referral_to ns hop = None

-- The fault that an end shows: behind a referral a lame name server, or one without an address; a rewrite that isn't
-- allowed, or whose name is too long; and behind a rewrite a name that doesn't exist.
abbrev pub end_fault : Option Place → Option Hop → Leaf → Option Fault
end_fault last hop (leaves.Lame ns) = option_map faults.Lame (referral_to ns hop)
end_fault last hop (leaves.NoAddress ns) = option_map faults.NoAddress (referral_to ns hop)
end_fault last hop (leaves.Limit place) = Some (faults.Limit place)
end_fault last hop (leaves.Overlong place) = Some (faults.Overlong place)
end_fault last hop leaves.NxDomain = option_map faults.Blackhole last
end_fault last hop leaf = None

-- the fault is one that an end shows
abbrev pub is_of_end : Fault → Bool
is_of_end (faults.Lame cut) = true
is_of_end (faults.NoAddress cut) = true
is_of_end (faults.Limit place) = true
is_of_end (faults.Overlong place) = true
is_of_end (faults.Blackhole place) = true
is_of_end fault = false

-- the branch ends in a name of more than 255 octets
abbrev pub is_overlong_end : Branch → Bool
is_overlong_end (Go hop to) = false
is_overlong_end (End hop leaf) = is_overlong leaf

-- with these lists of learnt addresses the fault of an end is shown: that of a name server without an address if it isn't
-- in the greatest
abbrev pub is_shown : Deps → Fault → Bool
is_shown deps (faults.NoAddress cut) = not (is_among deps.greatest cut.ns)
is_shown deps fault = is_of_end fault

-- ---- of a walk

-- the last of some
abbrev pub last_of : {X : Type 0} → List X → Option X
last_of all = slice_get all (length all - 1)

-- the place of the last rewrite of a walk through these states
abbrev pub last_place : List State → Option Place
last_place states = option_and_then (λ state. state.last) (last_of states)

-- the fault that the walk shows by its end
abbrev pub walk_fault : Walk → Option Fault
walk_fault walk = end_fault (last_place walk.states) (last_of walk.hops) walk.leaf

-- ---- of a branch

-- the fault of a branch, which has one only where it ends
abbrev pub branch_fault : State → Branch → Option Fault
branch_fault state (Go hop to) = None
branch_fault state (End hop leaf) = end_fault state.last hop leaf

-- the fault, if there is one and it is picked
abbrev pub if_picked : (Fault → Bool) → Option Fault → List Fault
if_picked picked None = []
if_picked picked (Some fault) = if picked fault then fault ∷ [] else []

-- the fault of a branch, if it is picked
abbrev pub picked_fault : (Fault → Bool) → State → Branch → List Fault
picked_fault picked state branch = if_picked picked (branch_fault state branch)

-- ---- what is lent

-- the fault of an end, whatever lends what it is shown at
abbrev pub fault_of : EndFault → Fault
fault_of (ends.Lame cut) = faults.Lame cut.now
fault_of (ends.NoAddress cut) = faults.NoAddress cut.now
fault_of (ends.Limit place) = faults.Limit place.now
fault_of (ends.Blackhole place) = faults.Blackhole place.now
fault_of (ends.Overlong place) = faults.Overlong place.now
