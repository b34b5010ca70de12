-- The turns of a graph's branches, and the nodes that lead to an address while certain servers are followed. The contracts
-- of inner calls alone cite it.
use Rattle.std.specs.Prelude.{◌≡◌, ℕ, Bool, true, false, ◌&&◌, List, slice_get, Some}
use Rattle.std.specs.List.{AllZip, list_any, sum_by}
use Rattle.std.specs.Option.{option_map_or}
use Rattle.dns_data.specs.Name.{Labels}
use Rattle.dns_data.specs.declared.rr_type.RrType.{RrType}
use Rattle.dns_data.specs.declared.rr_type.RrType.TheVariants as types
use Rattle.net_model.specs.declared.config.Config.{Config}
use Rattle.net_model.specs.declared.walk.Hop.{Hop}
use Rattle.net_model.specs.declared.walk.Hop.TheVariants.{Refer, Rewrite}
use Rattle.net_model.specs.Learnt.{gives_address}
use Rattle.net_model.specs.Nearest.{server_names}
use Rattle.net_model.specs.Step.{may_follow}
use Rattle.graph_form.specs.Graph.{PlainGraph, branches_of}
use Rattle.graph_form.specs.declared.node.Branch.{Branch}
use Rattle.graph_form.specs.declared.node.Branch.TheVariants.{Go, End}
use Rattle.address_deps.specs.Addresses.{AreServers, gives_from, turn_gives}
use Rattle.address_deps.specs.declared.server_set.Followed.{Followed}
use Rattle.address_deps.specs.declared.server_set.Followed.TheVariants.{Configured, Named}
use Rattle.address_deps.specs.declared.addresses.AddressPaths.{AddressPaths}
use Rattle.address_deps.specs.declared.addresses.Turn.{Turn}

-- the names of the servers that are followed
abbrev pub names_followed : Config → Followed → List Labels
names_followed config Configured = server_names config
names_followed config (Named set) = set.now

-- the name server of a hop may be followed; a rewrite is always taken
abbrev pub may_take : Config → List Labels → Hop → Bool
may_take config followed (Refer cut) = may_follow config cut followed
may_take config followed (Rewrite place by_dname to) = true

-- whether a path gives an address that takes this branch, as `turn_gives` says of a turn
abbrev pub branch_gives : Config → List Labels → (ℕ → Bool) → Bool → Branch → Bool
branch_gives config followed on is_last (Go hop to) = may_take config followed hop && on to
branch_gives config followed on is_last (End hop leaf) = is_last && gives_address leaf

-- by the turn a path gives an address exactly where it does by the branch
abbrev pub IsTurnOf : Config → Branch → Turn → Type 0
IsTurnOf config branch turn =
    (followed : List Labels) → AreServers config followed → (on : ℕ → Bool) (is_last : Bool)
    → turn_gives followed on is_last turn ≡ branch_gives config followed on is_last branch

-- for each node of a graph, in order, the turns are those of its branches with the type, in order
abbrev pub AreTurnsOf : Config → PlainGraph → RrType → List (List Turn) → Type 0
AreTurnsOf config graph rtype nodes = AllZip (λ node turns. AllZip (IsTurnOf config) (branches_of node rtype) turns) graph.nodes nodes

-- the paths are those of the graph's turns with the two types
pub record ArePathsOf (config : Config) (graph : PlainGraph) (paths : AddressPaths) : Type 0 where
  pub starts : paths.starts ≡ graph.starts
  pub four : AreTurnsOf config graph types.A paths.four
  pub six : AreTurnsOf config graph types.Aaaa paths.six

-- the node with this number is marked
abbrev pub is_marked : List Bool → ℕ → Bool
is_marked marks at = option_map_or (λ mark. mark) (slice_get marks at) false

-- one for a mark that isn't set, and zero for one that is
abbrev pub unset : Bool → ℕ
unset true = 0
unset false = 1

-- how many of the marks aren't set
abbrev pub unmarked : List Bool → ℕ
unmarked marks = sum_by unset marks

module _ (followed : List Labels) (nodes : List (List Turn)) where
  -- from each marked node a path gives an address
  abbrev pub AreGiving : List Bool → Type 0
  AreGiving marks = (at : ℕ) → is_marked marks at ≡ true → (numbers : List ℕ) × (gives_from followed nodes numbers at ≡ true)

  -- no turn of a node that isn't marked gives one
  abbrev pub AreComplete : List Bool → Type 0
  AreComplete marks = (at : ℕ) (turns : List Turn) → slice_get nodes at ≡ Some turns → is_marked marks at ≡ false
      → list_any (turn_gives followed (is_marked marks) true) turns ≡ false
