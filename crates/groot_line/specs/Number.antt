-- Numbers on the command line.
use Rattle.std.specs.Prelude.{ℕ, List, Option, Some, None, option_and_then, ok_or, if◌then◌else◌, ◌==◌, Result, Ok}
use Rattle.dns_data.specs.Number.{number_up_to}
use Rattle.groot_line.specs.LineOption.{most_of, default_of}
use Rattle.groot_line.specs.Program.{most_digits}
use Rattle.groot_line.specs.declared.fault.LineFault.{LineFault}
use Rattle.groot_line.specs.declared.fault.LineFault.TheVariants.{Usage}
use Rattle.groot_line.specs.declared.line_option.LineOption.{LineOption}
use Rattle.groot_line.specs.declared.program.Program.{Program}

-- a number, unless it is 0
abbrev pub unless_zero : ℕ → Option ℕ
unless_zero number = if number == 0 then None else Some number

-- the number from 1 up to the most that a word writes in decimal digits, leading zeros among them: one digit at least, and
-- no more than the program reads
abbrev pub number_to : Program → ℕ → List ℕ → Option ℕ
number_to program most word = option_and_then unless_zero (number_up_to (most_digits program) most word)

-- the number of an option, from the value that it was given
abbrev pub number_by : Program → LineOption → Option (List ℕ) → Result ℕ LineFault
number_by program option None = Ok (default_of program option)
number_by program option (Some value) = ok_or (number_to program (most_of program option) value) Usage
