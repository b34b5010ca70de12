-- Types that go the same way everywhere in a graph, and their ends. The contracts of inner calls alone cite it.
use Rattle.std.specs.Prelude.{◌≡◌, ℕ, true, Some, map, slice_get}
use Rattle.dns_data.specs.TypeSet.{has_bit}
use Rattle.dns_data.specs.declared.rr_type.RrType.{RrType}
use Rattle.graph_form.specs.Graph.{PlainGraph, branches_of}
use Rattle.graph_form.specs.declared.node.Node.{Node}
use Rattle.site_checks.specs.Ends.{typed_end}
use Rattle.site_checks.specs.PathEnds.{once_with}
use Rattle.site_checks.specs.declared.alike.AlikeEnds.{AlikeEnds}
use Rattle.site_checks.specs.declared.views.TypedEnd.{TypedEnd}

-- each node has the same branches for both types
abbrev pub GoAlike : PlainGraph → RrType → RrType → Type 0
GoAlike graph one other = (at : ℕ) (node : Node) → slice_get graph.nodes at ≡ Some node → branches_of node one ≡ branches_of node other

-- the end, with the type
abbrev pub retyped : RrType → TypedEnd → TypedEnd
retyped rtype end = typed_end rtype end.server end.leaf

-- they are the ends of all paths with each of the types, each once and where it comes first
abbrev pub AreAlikeEnds : PlainGraph → AlikeEnds → Type 0
AreAlikeEnds graph alike = (rtype : RrType) → has_bit alike.types rtype ≡ true → map (retyped rtype) alike.ends ≡ once_with graph rtype
