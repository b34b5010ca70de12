-- Files with a name in each line.
use Rattle.std.specs.Prelude.{ℕ, ◌+◌, ◌==◌, List, [], ◌∷◌, length, if◌then◌else◌, Result, Ok, Err}
use Rattle.std.specs.Char.{is_ascii_graphic}
use Rattle.std.specs.List.{list_all, slice_split}
use Rattle.dns_data.specs.Answers.{◌>>=◌, with_fault}
use Rattle.dns_data.specs.Name.{Labels}
use Rattle.dns_data.specs.Spelling.{name_of_text}
use Rattle.groot_run.specs.declared.name_list.ListFault.{ListFault}
use Rattle.groot_run.specs.declared.name_list.ListFault.TheVariants.{NotName}

-- the name under the root that the line with this number, counted from 1, spells in octets that are printed as they stand:
-- an escape spells each other octet of a name (RFC 1035 section 5.1)
abbrev pub name_in_line : ℕ → List ℕ → Result Labels ListFault
name_in_line number line =
    if list_all is_ascii_graphic line then with_fault (λ fault. NotName number) (name_of_text line []) else Err (NotName number)

-- the names of lines, of which the first has this number; an empty line has none
abbrev pub names_from : ℕ → List (List ℕ) → Result (List Labels) ListFault
names_from number [] = Ok []
names_from number (line ∷ lines) =
    if length line == 0 then names_from (number + 1) lines
    else (name_in_line number line >>= (λ name. names_from (number + 1) lines >>= (λ names. Ok (name ∷ names))))

-- the names of a file, in order: one in each line that isn't empty
abbrev pub names_of : List ℕ → Result (List Labels) ListFault
names_of octets = names_from 1 (slice_split (λ octet. octet == 10) octets)
