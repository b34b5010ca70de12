-- The zone files: `ZoneFiles`, a list of no more rows than are read. A row has a `FileName`, a `NameServer`, and an
-- `Origin` or none. Its shape is looked at before its names.
use Rattle.std.specs.Prelude.{ℕ, List, length, codes, nat_lt, ok_or, option_and_then, if◌then◌else◌, ◌==◌, Option, Some, None, Result, Ok, Err}
use Rattle.serde_json.specs.Data.{Data, null, string}
use Rattle.serde_json.specs.Find.{get}
use Rattle.dns_data.specs.Answers.{◌>>=◌}
use Rattle.dns_data.specs.Name.{Labels}
use Rattle.meta_read.specs.Members.{list_at, text_at}
use Rattle.meta_read.specs.Names.{each, name_in_row}
use Rattle.meta_read.specs.declared.fault.MetaFault.{MetaFault}
use Rattle.meta_read.specs.declared.fault.MetaFault.TheVariants.{Shape, TooManyRows}
use Rattle.meta_read.specs.declared.meta.MetaRow.{MetaRow}

-- a text that isn't empty
abbrev pub not_empty : List ℕ → Option (List ℕ)
not_empty text = if length text == 0 then None else Some text

-- the file of a row
abbrev pub file_in_row : Data → Option (List ℕ)
file_in_row row = option_and_then not_empty (text_at (codes "FileName") row)

-- the text of an origin, or none: a string, or null, which is as none
abbrev pub origin_text : Data → Option (Option (List ℕ))
origin_text (string text) = Some (Some text)
origin_text null = Some None
origin_text value = None

-- the text of a row's origin; without the member there is none
abbrev pub origin_at : Option Data → Option (Option (List ℕ))
origin_at None = Some None
origin_at (Some value) = origin_text value

-- the origin that a text stands for, where there is a text
abbrev pub origin_in : ℕ → Option (List ℕ) → Result (Option Labels) MetaFault
origin_in number None = Ok None
origin_in number (Some text) = do
  origin ← name_in_row number text
  Ok (Some origin)

-- a row: its shape, then its names
abbrev pub read_row : ℕ → Data → Result MetaRow MetaFault
read_row number row = do
  file ← ok_or (file_in_row row) (Shape number)
  server_text ← ok_or (text_at (codes "NameServer") row) (Shape number)
  origin_text ← ok_or (origin_at (get (codes "Origin") row)) (Shape number)
  server ← name_in_row number server_text
  origin ← origin_in number origin_text
  Ok (record { file = file; server = server; origin = origin })

-- the rows, counted from 1, if there are no more than this
abbrev pub rows_of : ℕ → Data → Result (List MetaRow) MetaFault
rows_of most value = do
  values ← ok_or (list_at (codes "ZoneFiles") value) (Shape 0)
  if nat_lt most (length values) then Err TooManyRows else each read_row 1 values
