use Rattle.std.proofs.Common.{All, take}
use Rattle.label_graph.specs.Pairs.{redirection}
use Rattle.part_checks.specs.Outside.{IsApart}
use Rattle.part_checks.proofs.limits.pair_apart.Given as goal

-- the pair is apart from the names so far
abbrev pub invariant-loop-name : goal.invariant-loop-name
invariant-loop-name l = All (IsApart (redirection l.pair)) (take l.name-index l.outside)
