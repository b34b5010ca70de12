-- So many octets were passed.
use Rattle.std.proofs.Common.{◌-◌, length}
use Rattle.master_lex.specs.States.{state_of}
use Rattle.master_lex.specs.Plain.{PassedFirst}
use Rattle.master_lex.proofs.scanner.Scanner.pass_all.Given as goal

abbrev pub invariant-loop-passed : goal.invariant-loop-passed
invariant-loop-passed l = PassedFirst (state_of l.fn.self) (state_of l.self) l.octets l.passed

abbrev pub decreases-loop-passed : goal.decreases-loop-passed
decreases-loop-passed l = length l.octets - l.passed
