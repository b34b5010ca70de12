use Rattle.std.proofs.Common.{◌≡◌, false, cond, ◌+◌, ◌-◌, ◌*◌, length, Contains}
use Rattle.label_graph.specs.declared.pair.Pair.{Pair}
use Rattle.label_graph.specs.Rows.{total}
use Rattle.label_graph.specs.Targets.{AreTrue, HasTarget}
use Rattle.label_graph.proofs.following.reads_of.Given as goal

-- the rows are true, and they have what is found along all targets once nothing was new
abbrev pub invariant-loop-more : goal.invariant-loop-more
invariant-loop-more l = record {
  each_true : AreTrue l.base l.dnames l.reads;
  all : l.more ≡ false → (pair : Pair) → Contains l.dnames pair → HasTarget l.base l.reads pair;
}

abbrev pub decreases-loop-more : goal.decreases-loop-more
decreases-loop-more l = length l.base * length l.base - total l.reads + cond l.more 1 0
