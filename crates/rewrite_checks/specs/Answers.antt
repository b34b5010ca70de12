-- Authoritative ends that differ: for the contracts of their search alone.
use Rattle.std.specs.Prelude.{◌≡◌, ◌≢◌, ◌⊎◌, ℕ, Bool, true, ◌&&◌, not, List, Option, Some, Contains, slice_get}
use Rattle.dns_data.specs.declared.rr_type.RrType.{RrType}
use Rattle.graph_form.specs.FirstPath.{answer_eq}
use Rattle.graph_form.specs.Graph.{PlainGraph, branches_of}
use Rattle.graph_form.specs.declared.node.Branch.{Branch}
use Rattle.graph_form.specs.declared.node.Branch.TheVariants.{End}
use Rattle.graph_form.specs.declared.node.Node.{Node}
use Rattle.graph_form.specs.declared.report.Seen.{Seen}
use Rattle.net_model.specs.Shown.{is_authoritative}
use Rattle.net_model.specs.declared.class.Class.{Class}
use Rattle.net_model.specs.declared.fault.Fault.TheVariants.{Answers}
use Rattle.net_model.specs.declared.walk.Hop.{Hop}
use Rattle.net_model.specs.declared.walk.Leaf.{Leaf}

-- the leaf is authoritative and tells another thing
abbrev pub is_other : Leaf → Leaf → Bool
is_other than leaf = is_authoritative leaf && not (answer_eq than leaf)

-- the branch ends in the leaf
abbrev pub BranchEndsIn : Branch → Leaf → Type 0
BranchEndsIn branch leaf = (hop : Option Hop) × (branch ≡ End hop leaf)

-- a branch of the node for the type ends in the leaf
abbrev pub NodeEndsIn : Node → RrType → Leaf → Type 0
NodeEndsIn node rtype leaf = (number : ℕ) × (branch : Branch) × (slice_get (branches_of node rtype) number ≡ Some branch) × BranchEndsIn branch leaf

-- a branch of some node of the graph for the type ends in the leaf
abbrev pub EndsIn : PlainGraph → RrType → Leaf → Type 0
EndsIn graph rtype leaf = (at : ℕ) × (node : Node) × (slice_get graph.nodes at ≡ Some node) × NodeEndsIn node rtype leaf

-- two authoritative ends for the type differ
pub record Differ (graph : PlainGraph) (rtype : RrType) : Type 0 where
  pub one : Leaf
  pub other : Leaf
  pub ends_in_one : EndsIn graph rtype one
  pub ends_in_other : EndsIn graph rtype other
  pub tells_one : is_authoritative one ≡ true
  pub tells_other : is_authoritative other ≡ true
  pub differ : one ≢ other

-- the fault of the class and a type
abbrev pub answers_of : Class → RrType → Seen
answers_of class rtype = record { fault = Answers class rtype; rtype = rtype }

-- the class's faults of differing answers are put behind others, for those of the types with which answers differ
pub record PutsAnswers (class : Class) (graph : PlainGraph) (types : List RrType) (old new : List Seen) : Type 0 where
  pub kept : (seen : Seen) → Contains old seen → Contains new seen
  pub from : (seen : Seen) → Contains new seen → Contains old seen ⊎ ((seen ≡ answers_of class seen.rtype) × Differ graph seen.rtype)
  pub all : (rtype : RrType) → Contains types rtype → Differ graph rtype → Contains new (answers_of class rtype)
