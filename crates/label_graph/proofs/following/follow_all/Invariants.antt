use Rattle.std.proofs.Common.{take}
use Rattle.label_graph.specs.Targets.{ArePassed}
use Rattle.label_graph.proofs.following.follow_all.Given as goal

-- the targets of those passed were followed
abbrev pub invariant-loop-pair : goal.invariant-loop-pair
invariant-loop-pair l = ArePassed l.base l.dnames (take l.pair-index l.dnames) l.initial.reads l.reads l.any
