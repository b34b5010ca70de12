-- So far the list has copies of the first ones.
use Rattle.std.proofs.Common.{◌≡◌, take}
use Rattle.label_graph.proofs.pair.copies.Given as goal

abbrev pub invariant-loop-pair : goal.invariant-loop-pair
invariant-loop-pair l = l.copies ≡ take l.pair-index l.pairs
