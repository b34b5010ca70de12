use Rattle.std.proofs.Common.{◌+◌, ◌-◌, length}
use Rattle.label_graph.specs.Rows.{IsFilledOn}
use Rattle.label_graph.proofs.rows.fill_on.Given as goal

-- empty rows were put at the end
abbrev pub invariant-loop-alloc : goal.invariant-loop-alloc
invariant-loop-alloc l = IsFilledOn l.fn.rows.items l.place l.rows.items

abbrev pub decreases-loop-alloc : goal.decreases-loop-alloc
decreases-loop-alloc l = l.place + 1 - length l.rows.items
