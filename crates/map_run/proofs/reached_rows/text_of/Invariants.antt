-- The lines so far and those of the rows that are left are all lines.
use Rattle.std.proofs.Common.{◌≡◌, ◌+◌, ◌++◌, drop}
use Rattle.map_run.specs.Reached.{reached_text}
use Rattle.map_run.proofs.reached_rows.text_of.Given as goal

abbrev pub invariant-loop-i : goal.invariant-loop-i
invariant-loop-i l = l.text ++ reached_text (l.i + 1) (drop l.i l.reached) (drop l.i l.rows) ≡ reached_text 1 l.reached l.rows
