use Rattle.std.proofs.Common.{All, take}
use Rattle.label_graph.specs.declared.pair.Pair.{Pair}
use Rattle.label_graph.specs.Pairs.{redirection}
use Rattle.part_checks.specs.Outside.{IsApart}
use Rattle.part_checks.proofs.limits.pairs_apart.Given as goal

-- the pairs so far are apart
abbrev pub invariant-loop-pair : goal.invariant-loop-pair
invariant-loop-pair l = All (λ (pair : Pair). All (IsApart (redirection pair)) l.outside) (take l.pair-index l.pairs)
