-- So many octets were passed, with these tokens.
use Rattle.std.proofs.Common.{◌-◌, ◌≤◌, [], length}
use Rattle.master_lex.specs.States.{LexState}
use Rattle.master_lex.specs.Lines.{in_line}
use Rattle.master_lex.specs.Plain.{PassedFirst}
use Rattle.master_lex.proofs.line.read_line.Given as goal

abbrev pub invariant-loop-count : goal.invariant-loop-count
invariant-loop-count l = (l.passed ≤ length l.octets) × ((s : LexState) → PassedFirst (in_line s []) (in_line s l.tokens.items) l.octets l.passed)

abbrev pub decreases-loop-count : goal.decreases-loop-count
decreases-loop-count l = length l.octets - l.passed
