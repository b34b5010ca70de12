-- The lines of a word, some of which count for the status.
use Rattle.std.specs.Prelude.{ℕ, Bool, List, [], ◌∷◌, ◌++◌, decimal, Option, Some, None, if◌then◌else◌}
use Rattle.std.specs.List.{flat_map, list_any}
use Rattle.dns_data.specs.declared.rdata.Rr.{Rr}
use Rattle.config_load.specs.Faults.{name_numbered}
use Rattle.config_load.specs.declared.loaded.RowFiles.{RowFiles}
use Rattle.run_endings.specs.Endings.{with_output}
use Rattle.run_endings.specs.declared.ending.Ending.{Ending}
use Rattle.run_endings.specs.declared.status.Status.{Status}
use Rattle.run_endings.specs.declared.status.Status.TheVariants.{Clean, Faults}
use Rattle.map_run.specs.Columns.{columns_line, file_text}
use Rattle.map_run.specs.declared.lines.Line.{Line}

-- the line of these columns
abbrev pub line_of : Bool → List (List ℕ) → Line
line_of counts columns = record { counts = counts; text = columns_line columns }

-- the lines, if it is so
abbrev pub if_so : Bool → List Line → List Line
if_so holds lines = if holds then lines else []

-- the columns of a record's place: the file and the line from which it was read, both empty where there is none
abbrev pub place_columns : RowFiles → Option Rr → List (List ℕ)
place_columns row None = [] ∷ [] ∷ []
place_columns row (Some rr) = file_text (name_numbered row.files rr.file) ∷ decimal rr.line ∷ []

-- the texts of lines, in order
abbrev pub lines_text : List Line → List ℕ
lines_text lines = flat_map (λ line. line.text) lines

-- the status says whether some line counts
abbrev pub lines_status : List Line → Status
lines_status lines = if list_any (λ line. line.counts) lines then Faults else Clean

-- the run ends with these lines
abbrev pub with_lines : List Line → Ending
with_lines lines = with_output (lines_status lines) (lines_text lines)

-- the lines of rows, of each by those before it
abbrev pub by_earlier : {A : Type 0} → (List RowFiles → RowFiles → List A) → List RowFiles → List RowFiles → List A
by_earlier tell before [] = []
by_earlier tell before (row ∷ rows) = tell before row ++ by_earlier tell (before ++ row ∷ []) rows
