use Rattle.std.proofs.Common.{◌≡◌, take}
use Rattle.groot_run.specs.ClassRows.{rows_text}
use Rattle.groot_run.proofs.classes.text_of.Given as goal

abbrev pub invariant-loop-row : goal.invariant-loop-row
invariant-loop-row l = l.text ≡ rows_text (take l.row-index l.rows)
