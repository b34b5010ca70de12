use Rattle.std.proofs.Common.{take}
use Rattle.label_graph.specs.Rows.{AreAdded}
use Rattle.label_graph.proofs.rows.put_missing.Given as goal

-- those of the places passed were put
abbrev pub invariant-loop-place : goal.invariant-loop-place
invariant-loop-place l = AreAdded l.initial.list (take l.place-index l.more) l.list l.any
