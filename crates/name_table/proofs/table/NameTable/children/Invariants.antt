use Rattle.std.proofs.Common.{◌-◌, length}
use Rattle.name_table.proofs.PassedChildren.{ArePassed}
use Rattle.name_table.proofs.table.NameTable.children.Given as goal

-- the children before the next place were put
abbrev pub invariant-loop-child : goal.invariant-loop-child
invariant-loop-child l = ArePassed l.self l.place l.places.items l.next

abbrev pub decreases-loop-child : goal.decreases-loop-child
decreases-loop-child l = length l.self - l.next
