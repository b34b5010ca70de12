-- The words behind a command that are neither options nor their values.
use Rattle.std.specs.Prelude.{ℕ, List, [], ◌∷◌, length, ok_or, if◌then◌else◌, ◌==◌, Result, Ok, Err}
use Rattle.dns_data.specs.Answers.{◌>>=◌, with_fault}
use Rattle.dns_data.specs.Name.{Labels}
use Rattle.dns_data.specs.RrType.{type_of_word}
use Rattle.dns_data.specs.Spelling.{name_of_text}
use Rattle.dns_data.specs.declared.rr_type.RrType.{RrType}
use Rattle.groot_line.specs.Number.{number_to}
use Rattle.groot_line.specs.declared.fault.LineFault.{LineFault}
use Rattle.groot_line.specs.declared.fault.LineFault.TheVariants.{Usage}
use Rattle.groot_line.specs.declared.program.Program.{Program}

-- the file that a word names; the word isn't empty
abbrev pub asked_file : List ℕ → Result (List ℕ) LineFault
asked_file word = if length word == 0 then Err Usage else Ok word

-- the metadata file, if its word is the only operand
abbrev pub only_meta : List (List ℕ) → Result (List ℕ) LineFault
only_meta (word ∷ []) = asked_file word
only_meta operands = Err Usage

-- the two files, in order, if their words are the only operands
abbrev pub two_files : List (List ℕ) → Result (List ℕ × List ℕ) LineFault
two_files (first_word ∷ second_word ∷ []) = do
  first ← asked_file first_word
  second ← asked_file second_word
  Ok (first, second)
two_files operands = Err Usage

-- the query name that a word stands for under the root
abbrev pub asked_name : List ℕ → Result Labels LineFault
asked_name word = with_fault (λ fault. Usage) (name_of_text word [])

-- the type with this word, in any case
abbrev pub asked_type : List ℕ → Result RrType LineFault
asked_type word = ok_or (type_of_word word) Usage

-- the most zones of which a drill makes files
abbrev pub most_zones : ℕ
most_zones = 5000

-- the number of zones of a drill, if the word for it is the only operand
abbrev pub drill_number : Program → List (List ℕ) → Result ℕ LineFault
drill_number program (word ∷ []) = ok_or (number_to program most_zones word) Usage
drill_number program operands = Err Usage
