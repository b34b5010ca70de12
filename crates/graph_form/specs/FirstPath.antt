-- Which branches show a fault by themselves, and the first path that takes one: for the contracts of the search alone.
use Rattle.std.specs.Prelude.{◌≡◌, ◌≢◌, ℕ, ◌+◌, ◌*◌, ◌<◌, ◌≤◌, Bool, true, false, ◌||◌, ◌&&◌, not, List, [], ◌∷◌, length, Option, Some, None, slice_get, if◌then◌else◌, ◌==◌}
use Rattle.std.specs.List.{list_all}
use Rattle.std.specs.Option.{option_map_or}
use Rattle.std.specs.declared.cmp.Ordering.TheVariants.{Less}
use lib.Pointwise.{pointwise}
use Rattle.dns_data.specs.Name.{name_eq}
use Rattle.dns_data.specs.Rdata.{data_eq}
use Rattle.dns_data.specs.declared.rr_type.RrType.{RrType}
use Rattle.net_model.specs.Shown.{is_authoritative}
use Rattle.net_model.specs.Walk.{path_cmp}
use Rattle.net_model.specs.declared.fault.Fault.{Fault}
use Rattle.net_model.specs.declared.fault.Fault.TheVariants as faults
use Rattle.net_model.specs.declared.place.Cut.{Cut}
use Rattle.net_model.specs.declared.place.Place.{Place}
use Rattle.net_model.specs.declared.walk.Hop.{Hop}
use Rattle.net_model.specs.declared.walk.Hop.TheVariants.{Refer}
use Rattle.net_model.specs.declared.walk.Leaf.{Leaf}
use Rattle.net_model.specs.declared.walk.Leaf.TheVariants as leaves
use Rattle.net_model.specs.declared.walk.State.{State}
use Rattle.net_model.specs.declared.walk.Walk.{Walk}
use Rattle.graph_form.specs.Branches.{hop_of}
use Rattle.graph_form.specs.EndFaults.{branch_fault}
use Rattle.graph_form.specs.Graph.{HasBranch, PlainGraph, branches_of, path_along}
use Rattle.graph_form.specs.declared.first_path.Onward.{Onward}
use Rattle.graph_form.specs.declared.first_path.Turn.{Turn}
use Rattle.graph_form.specs.declared.node.Branch.{Branch}
use Rattle.graph_form.specs.declared.node.Branch.TheVariants.{Go, End}
use Rattle.graph_form.specs.declared.node.Node.{Node}

-- ---- which branches show a fault

-- places are equal
abbrev pub place_eq : Place → Place → Bool
place_eq a b = name_eq a.server b.server && name_eq a.zone b.zone && name_eq a.owner b.owner

-- name servers of delegations are equal
abbrev pub cut_eq : Cut → Cut → Bool
cut_eq a b = name_eq a.server b.server && name_eq a.zone b.zone && name_eq a.cut b.cut && name_eq a.ns b.ns

-- leaves that tell what a zone has for the name are equal
abbrev pub answer_eq : Leaf → Leaf → Bool
answer_eq (leaves.Answer a) (leaves.Answer b) = pointwise data_eq a b
answer_eq leaves.NoData leaves.NoData = true
answer_eq leaves.NxDomain leaves.NxDomain = true
answer_eq a b = false

-- the hop is the referral to the name server
abbrev pub is_referral : Cut → Option Hop → Bool
is_referral cut (Some (Refer other)) = cut_eq cut other
is_referral cut hop = false

-- the two are one fault, which an end shows
abbrev pub is_fault : Fault → Fault → Bool
is_fault (faults.Lame cut) (faults.Lame other) = cut_eq cut other
is_fault (faults.NoAddress cut) (faults.NoAddress other) = cut_eq cut other
is_fault (faults.Limit place) (faults.Limit other) = place_eq place other
is_fault (faults.Blackhole place) (faults.Blackhole other) = place_eq place other
is_fault (faults.Overlong place) (faults.Overlong other) = place_eq place other
is_fault fault other = false

-- an authoritative leaf in which none of the walks ends
abbrev pub is_new_answer : List Walk → Leaf → Bool
is_new_answer walks leaf = is_authoritative leaf && list_all (λ walk. not (answer_eq walk.leaf leaf)) walks

-- the branch ends in such a leaf
abbrev pub ends_anew : List Walk → Branch → Bool
ends_anew walks (Go hop to) = false
ends_anew walks (End hop leaf) = is_new_answer walks leaf

-- The branch of a state shows the fault: by its referral, whatever comes behind it, or as an end. Of differing answers it
-- shows one that none of the walks has.
abbrev pub branch_shows : Fault → List Walk → State → Branch → Bool
branch_shows (faults.Differs cut) walks state branch = is_referral cut (hop_of branch)
branch_shows (faults.NoGlue cut) walks state branch = is_referral cut (hop_of branch)
branch_shows (faults.GlueDiffers cut) walks state branch = is_referral cut (hop_of branch)
branch_shows (faults.Cyclic cut) walks state branch = is_referral cut (hop_of branch)
branch_shows (faults.Answers class rtype) walks state branch = ends_anew walks branch
branch_shows fault walks state branch = option_map_or (λ found. is_fault found fault) (branch_fault state branch) false

-- ---- paths that take such a branch

-- the rest of a path by a branch: whether it is whole, and takes a branch that shows, unless one was taken before
abbrev pub takes_by : (Bool → ℕ → Bool) → (State → Branch → Bool) → State → Bool → Bool → Option Branch → Bool
takes_by rest shows state is_last taken None = false
takes_by rest shows state is_last taken (Some (Go hop to)) = rest (taken || shows state (Go hop to)) to
takes_by rest shows state is_last taken (Some (End hop leaf)) = is_last && (taken || shows state (End hop leaf))

-- the rest of a path by the branch of a node with a number: whether it is whole, and takes a branch that shows
abbrev pub node_takes : (Bool → ℕ → Bool) → (State → Branch → Bool) → RrType → ℕ → Bool → Bool → Option Node → Bool
node_takes rest shows rtype number is_last taken None = false
node_takes rest shows rtype number is_last taken (Some node) =
    takes_by rest shows node.state is_last taken (slice_get (branches_of node rtype) number)

-- the path from the node with these numbers is whole, and takes a branch that shows unless one was taken before
abbrev pub takes_from : (State → Branch → Bool) → PlainGraph → RrType → List ℕ → Bool → ℕ → Bool
takes_from shows graph rtype [] taken at = false
takes_from shows graph rtype (number ∷ numbers) taken at =
    node_takes (takes_from shows graph rtype numbers) shows rtype number (length numbers == 0) taken (slice_get graph.nodes at)

-- the path from a start with these numbers is whole, and takes a branch that shows
abbrev pub takes_along : (State → Branch → Bool) → PlainGraph → RrType → List ℕ → Bool
takes_along shows graph rtype [] = false
takes_along shows graph rtype (number ∷ numbers) =
    option_map_or (takes_from shows graph rtype numbers false) (slice_get graph.starts number) false

-- no whole path from the node takes a branch that shows; if one was taken before, there is no whole path at all
abbrev pub IsBarren : (State → Branch → Bool) → PlainGraph → RrType → Bool → ℕ → Type 0
IsBarren shows graph rtype taken at = (numbers : List ℕ) → takes_from shows graph rtype numbers taken at ≡ false

-- of the paths from the node that take a branch that shows, unless one was taken before, this one is the first
pub record IsFirstFrom (shows : State → Branch → Bool) (graph : PlainGraph) (rtype : RrType) (taken : Bool) (at : ℕ) (numbers : List ℕ) : Type 0 where
  pub takes : takes_from shows graph rtype numbers taken at ≡ true
  pub first : (others : List ℕ) → takes_from shows graph rtype others taken at ≡ true → path_cmp others numbers ≢ Less

-- of the paths from a start that take a branch that shows, this one is the first
pub record IsFirstAlong (shows : State → Branch → Bool) (graph : PlainGraph) (rtype : RrType) (numbers : List ℕ) : Type 0 where
  pub takes : takes_along shows graph rtype numbers ≡ true
  pub first : (others : List ℕ) → takes_along shows graph rtype others ≡ true → path_cmp others numbers ≢ Less

-- ---- the search

-- where it is marked that a node was met, behind a branch that shows or not
abbrev pub met_mark : ℕ → Bool → ℕ
met_mark at taken = 2 * at + (if taken then 1 else 0)

-- the branch is to be followed: it ends a path that shows, or goes to a node that wasn't met
abbrev pub is_to_follow : List Bool → Bool → Branch → Bool
is_to_follow met taken (Go hop to) = option_map_or not (slice_get met (met_mark to taken)) false
is_to_follow met taken (End hop leaf) = taken

-- the node that a branch goes to
abbrev pub node_behind : Branch → Option ℕ
node_behind (Go hop to) = Some to
node_behind (End hop leaf) = None

-- the branch with this number is to be followed
pub record IsToFollowAt (shows : State → Branch → Bool) (graph : PlainGraph) (rtype : RrType) (met : List Bool) (turn : Turn) (onward : Onward) : Type 0 where
  pub node : Node
  pub branch : Branch
  pub has : HasBranch graph rtype turn.node onward.number node branch
  pub taken : onward.taken ≡ (turn.taken || shows node.state branch)
  pub leads : onward.to ≡ node_behind branch
  pub is_to_follow : is_to_follow met onward.taken branch ≡ true
  pub later : turn.number ≤ onward.number

-- the number is before the branch, if there is one
abbrev pub IsBefore : ℕ → Option Onward → Type 0
IsBefore number None = Unit {0}
IsBefore number (Some onward) = number < onward.number

-- the branches from the turn's on, before the one that is found, are not to be followed
abbrev pub ArePassed : (State → Branch → Bool) → PlainGraph → RrType → List Bool → Turn → Option Onward → Type 0
ArePassed shows graph rtype met turn found =
    (number : ℕ) (node : Node) (branch : Branch) → turn.number ≤ number → IsBefore number found
    → HasBranch graph rtype turn.node number node branch → is_to_follow met (turn.taken || shows node.state branch) branch ≡ false

-- the nodes that were met are barren
abbrev pub AreBarren : (State → Branch → Bool) → PlainGraph → RrType → List Bool → Type 0
AreBarren shows graph rtype met =
    (at : ℕ) (taken : Bool) → slice_get met (met_mark at taken) ≡ Some true → IsBarren shows graph rtype taken at

-- ---- its walk

-- the walk is that of the first path
abbrev pub IsFirstWalk : (State → Branch → Bool) → PlainGraph → RrType → Walk → Type 0
IsFirstWalk shows graph rtype walk =
    (numbers : List ℕ) × IsFirstAlong shows graph rtype numbers × (path_along graph rtype numbers ≡ Some walk)
