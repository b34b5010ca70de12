use Rattle.std.proofs.Common.{◌≡◌, ◌<◌, ◌*◌, ◌-◌, ℕ, true, length}
use Rattle.std.specs.Prelude.{Contains}
use Rattle.dns_data.specs.declared.rr_type.RrType.{RrType}
use Rattle.interp_graph.specs.Restricted.{AreSound, has_type, many_types, shut_of}
use Rattle.interp_graph.proofs.reached.types_reached.Given as goal

-- the types so far
abbrev pub invariant-loop : goal.invariant-loop
invariant-loop l = record {
  many : length l.reaching.sets.items ≡ length l.graph.nodes;
  begun : (at : ℕ) → Contains l.graph.starts at → at < length l.graph.nodes → (rtype : RrType) → has_type l.reaching.sets.items at rtype ≡ true;
  sound : AreSound (shut_of l.limits) l.graph.nodes l.graph.starts l.reaching.sets.items;
}

-- how many pairs of node and type may still be gained
abbrev pub decreases-loop : goal.decreases-loop
decreases-loop l = 12 * length l.reaching.sets.items - many_types l.reaching.sets.items
