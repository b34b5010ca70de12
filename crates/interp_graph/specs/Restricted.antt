-- A graph where only some servers are followed, and with which types its paths still come to nodes. The contracts of
-- inner calls alone cite it.
use Rattle.std.specs.Prelude.{◌≡◌, ◌⊎◌, ℕ, ◌<◌, ◌≤◌, ◌&&◌, Bool, true, false, List, [], ◌∷◌, length, map, Option, Some, None, Contains, slice_get, if◌then◌else◌}
use Rattle.std.specs.List.{AllZip, filter, sum_by}
use Rattle.std.specs.Option.{option_map_or}
use Rattle.dns_data.specs.Name.{Labels}
use Rattle.dns_data.specs.RrType.{types}
use Rattle.dns_data.specs.TypeSet.{has_bit}
use Rattle.dns_data.specs.declared.rr_type.RrType.{RrType}
use Rattle.net_model.specs.Step as step
use Rattle.net_model.specs.Step.{may_follow}
use Rattle.net_model.specs.declared.config.Config.{Config}
use Rattle.net_model.specs.declared.walk.Hop.{Hop}
use Rattle.net_model.specs.declared.walk.Hop.TheVariants.{Refer, Rewrite}
use Rattle.net_model.specs.declared.walk.Leaf.{Leaf}
use Rattle.net_model.specs.declared.walk.Leaf.TheVariants.{Lame, NoAddress}
use Rattle.graph_form.specs.declared.node.Arm.{Arm}
use Rattle.graph_form.specs.declared.node.Branch.{Branch}
use Rattle.graph_form.specs.declared.node.Branch.TheVariants.{Go, End}
use Rattle.graph_form.specs.declared.node.Node.{Node}
use Rattle.interp_graph.specs.declared.limits.Limits.{Limits}
use Rattle.interp_graph.specs.declared.reached.Reaching.{Reaching}

-- the end at a name server that may not be followed, for want of its address
abbrev pub shut : Config → List Labels → Hop → Option Leaf
shut config followed (Refer cut) = if may_follow config cut followed then None else Some (NoAddress cut.ns)
shut config followed (Rewrite place by_dname to) = None

-- the same for the servers that are followed
abbrev pub shut_of : Limits → Hop → Option Leaf
shut_of limits = shut limits.hosts.now limits.followed.now

-- which hops end, and how
module _ (ends : Hop → Option Leaf) where
  -- a branch of a state while hops end: one by such a hop ends there, whether it led on or was lame
  abbrev pub restricted : step.Branch → step.Branch
  restricted (step.Go hop to) = option_map_or (λ leaf. step.End (Some hop) leaf) (ends hop) (step.Go hop to)
  restricted (step.End (Some hop) (Lame ns)) = option_map_or (λ leaf. step.End (Some hop) leaf) (ends hop) (step.End (Some hop) (Lame ns))
  restricted branch = branch

  -- the same of a branch of a graph
  abbrev pub limited : Branch → Branch
  limited (Go hop to) = option_map_or (λ leaf. End (Some hop) leaf) (ends hop) (Go hop to)
  limited (End (Some hop) (Lame ns)) = option_map_or (λ leaf. End (Some hop) leaf) (ends hop) (End (Some hop) (Lame ns))
  limited branch = branch

  -- with the type an arm of the one node leads to the other, by a hop that doesn't end
  pub record LeadsTo (nodes : List Node) (rtype : RrType) (at to : ℕ) : Type 0 where
    pub node : Node
    pub is_node : slice_get nodes at ≡ Some node
    pub arm : Arm
    pub has_arm : Contains node.arms arm
    pub typed : has_bit arm.types rtype ≡ true
    pub hop : Hop
    pub goes : Contains arm.branches (Go hop to)
    pub open_hop : ends hop ≡ None

  -- a path with the type comes from a start to the node, over the nodes with these numbers, the last first
  abbrev pub ComesOver : List Node → List ℕ → RrType → List ℕ → ℕ → Type 0
  ComesOver nodes starts rtype [] at = Contains starts at
  ComesOver nodes starts rtype (before ∷ path) at = LeadsTo nodes rtype before at × ComesOver nodes starts rtype path before

-- the node with this number has the type, by the sets of types of all nodes
abbrev pub has_type : List (List Bool) → ℕ → RrType → Bool
has_type sets at rtype = option_map_or (λ set. has_bit set rtype) (slice_get sets at) false

-- how many types a set has
abbrev pub size_of : List Bool → ℕ
size_of set = length (filter (has_bit set) types)

-- how many pairs of node and type there are
abbrev pub many_types : List (List Bool) → ℕ
many_types sets = sum_by size_of sets

module _ (ends : Hop → Option Leaf) where
  -- with each type that a node has a path comes to it
  abbrev pub AreSound : List Node → List ℕ → List (List Bool) → Type 0
  AreSound nodes starts sets = (at : ℕ) (rtype : RrType) → has_type sets at rtype ≡ true → (path : List ℕ) × ComesOver ends nodes starts rtype path at

  -- where an arm leads from a node with a type that it has, the next node has it too
  abbrev pub AreClosed : List Node → List (List Bool) → Type 0
  AreClosed nodes sets =
      (at to : ℕ) (rtype : RrType) → has_type sets at rtype ≡ true → LeadsTo ends nodes rtype at to → to < length nodes → has_type sets to rtype ≡ true

  -- the nodes have the types with which paths from the starts come to them, and no other
  pub record AreReached (nodes : List Node) (starts : List ℕ) (sets : List (List Bool)) : Type 0 where
    pub many : length sets ≡ length nodes
    pub begun : (at : ℕ) → Contains starts at → at < length nodes → (rtype : RrType) → has_type sets at rtype ≡ true
    pub sound : AreSound nodes starts sets
    pub closed : AreClosed nodes sets

  -- a branch leads to the node by a hop that doesn't end, and the set has the type
  abbrev pub BranchLeads : List Bool → Branch → ℕ → RrType → Type 0
  BranchLeads set branch to rtype = (has_bit set rtype ≡ true) × (hop : Hop) × (branch ≡ Go hop to) × (ends hop ≡ None)

  -- a branch of the arm does, and both the set and the arm have the type
  abbrev pub ArmLeads : List Bool → Arm → ℕ → RrType → Type 0
  ArmLeads set arm to rtype =
      (has_bit set rtype ≡ true) × (has_bit arm.types rtype ≡ true) × (hop : Hop) × Contains arm.branches (Go hop to) × (ends hop ≡ None)

  -- the arm has those of its types that the set has, and where there is one, its branches while hops end
  pub record IsLimitedArm (set : List Bool) (now before : Arm) : Type 0 where
    pub types : (rtype : RrType) → has_bit now.types rtype ≡ (has_bit set rtype && has_bit before.types rtype)
    pub branches : (rtype : RrType) → has_bit now.types rtype ≡ true → now.branches ≡ map (limited ends) before.branches

  -- the node with its arms while hops end, for the types that the set has
  pub record IsLimitedNode (set : List Bool) (now before : Node) : Type 0 where
    pub state : now.state ≡ before.state
    pub arms : AllZip (IsLimitedArm set) now.arms before.arms

  -- the node with this number is the given one while hops end, for the types of the set with the number
  pub record LimitedAt (now : List Node) (sets : List (List Bool)) (before : List Node) (at : ℕ) : Type 0 where
    pub one : Node
    pub set : List Bool
    pub node : Node
    pub is_one : slice_get now at ≡ Some one
    pub is_set : slice_get sets at ≡ Some set
    pub is_node : slice_get before at ≡ Some node
    pub is_limited : IsLimitedNode set one node

  -- all nodes are the given ones so
  pub record AreLimited (now : List Node) (sets : List (List Bool)) (before : List Node) : Type 0 where
    pub many : length now ≡ length before
    pub each : (at : ℕ) → at < length now → LimitedAt now sets before at

-- it is so for one of the items
abbrev pub ForOne : {X : Type 0} → (X → ℕ → RrType → Type 0) → List X → ℕ → RrType → Type 0
ForOne {X = X} IsTo items at rtype = (item : X) × Contains items item × IsTo item at rtype

-- nodes gain the types for which this is so, and no other; it is told where one gains a type
pub record Gains (IsTo : ℕ → RrType → Type 0) (before after : Reaching) : Type 0 where
  pub many : length after.sets.items ≡ length before.sets.items
  pub keeps : (at : ℕ) (rtype : RrType) → has_type before.sets.items at rtype ≡ true → has_type after.sets.items at rtype ≡ true
  pub has : (at : ℕ) (rtype : RrType) → IsTo at rtype → at < length before.sets.items → has_type after.sets.items at rtype ≡ true
  pub only : (at : ℕ) (rtype : RrType) → has_type after.sets.items at rtype ≡ true
      → (has_type before.sets.items at rtype ≡ true) ⊎ IsTo at rtype
  pub same : after.more ≡ false → (before.more ≡ false) × (after.sets.items ≡ before.sets.items)
  pub no_fewer : many_types before.sets.items ≤ many_types after.sets.items
  pub told : after.more ≡ true → (before.more ≡ true) ⊎ (many_types before.sets.items < many_types after.sets.items)
