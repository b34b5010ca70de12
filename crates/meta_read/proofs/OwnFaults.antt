-- No metadata are refused because memory ran out: that answer is a call's alone.
use Rattle.std.proofs.Common.{ℕ, ◌+◌, List, [], ◌∷◌, length, codes, is_some, nat_lt, ◌==◌, Option, Some, None, Result, Ok, Err}
use Rattle.std.specs.List.{list_all}
use Rattle.std.specs.Option.{ok_or}
use Rattle.std.specs.Result.{IfErr}
use Rattle.serde_json.specs.Data.{Data}
use Rattle.serde_json.specs.Find.{as_str, get}
use Rattle.dns_data.proofs.Answers.{if_err_then, if_err_told, if_err_or, if_err_either}
use Rattle.dns_data.specs.Name.{Labels}
use Rattle.dns_data.specs.Spelling.{name_of_text}
use Rattle.dns_data.specs.declared.fault.NameFault.{NameFault}
use Rattle.meta_read.specs.Members.{value_of, list_at, text_at}
use Rattle.meta_read.specs.Metadata.{first_unhosted, unless_unhosted, metadata_in, metadata_within}
use Rattle.meta_read.specs.Names.{each, name_in_row}
use Rattle.meta_read.specs.Rows.{file_in_row, origin_at, origin_in, read_row, rows_of}
use Rattle.meta_read.specs.Tops.{top_of, tops_in, tops_of}
use Rattle.meta_read.specs.declared.fault.MetaFault.{MetaFault}
use Rattle.meta_read.specs.declared.fault.MetaFault.TheVariants.{NotJson, Shape, BadName, NoMemory}
use Rattle.meta_read.specs.declared.meta.Meta.{Meta}

-- the fault says something of the metadata
abbrev pub IsOwn : MetaFault → Type 0
IsOwn NoMemory = ⊥
IsOwn fault = Unit {0}

name_own : (row : ℕ) (text : List ℕ) → IfErr (name_in_row row text) IsOwn
name_own row text = if_err_told IsOwn (λ fault. BadName row) (name_of_text text []) (by (name_of_text text [])) where
  by : (said : Result Labels NameFault) → IfErr said (λ fault. IsOwn (BadName row))
  by (Ok name) = tt
  by (Err fault) = tt

each_own : {A B : Type 0} (step : ℕ → A → Result B MetaFault) → ((number : ℕ) (item : A) → IfErr (step number item) IsOwn) → (number : ℕ) (items : List A) → IfErr (each step number items) IsOwn
each_own step own number [] = tt
each_own step own number (item ∷ items) =
    if_err_then IsOwn (step number item) _ (own number item)
    (λ first. if_err_then IsOwn (each step (number + 1) items) _ (each_own step own (number + 1) items) (λ rest. tt))

top_own : (number : ℕ) (value : Data) → IfErr (top_of number value) IsOwn
top_own number value =
    if_err_then IsOwn (ok_or (as_str value) (Shape 0)) _ (if_err_or IsOwn (as_str value) (Shape 0) tt) (name_own 0)

tops_in_own : (values : List Data) → IfErr (tops_in values) IsOwn
tops_in_own values =
    if_err_either IsOwn (list_all (λ value. is_some (as_str value)) values) _ _
    (if_err_either IsOwn (length values == 0) _ _ tt (each_own top_of top_own 1 values))
    tt

tops_own : (value : Data) → IfErr (tops_of value) IsOwn
tops_own value =
    if_err_then IsOwn (ok_or (list_at (codes "TopNameServers") value) (Shape 0)) _ (if_err_or IsOwn (list_at (codes "TopNameServers") value) (Shape 0) tt)
    (λ values. if_err_then IsOwn (tops_in values) _ (tops_in_own values) (λ names. tt))

origin_own : (number : ℕ) (text : Option (List ℕ)) → IfErr (origin_in number text) IsOwn
origin_own number None = tt
origin_own number (Some text) = if_err_then IsOwn (name_in_row number text) _ (name_own number text) (λ origin. tt)

row_own : (number : ℕ) (row : Data) → IfErr (read_row number row) IsOwn
row_own number row =
    if_err_then IsOwn (ok_or (file_in_row row) (Shape number)) _ (if_err_or IsOwn (file_in_row row) (Shape number) tt)
    (λ file. if_err_then IsOwn (ok_or (text_at (codes "NameServer") row) (Shape number)) _ (if_err_or IsOwn (text_at (codes "NameServer") row) (Shape number) tt)
    (λ server_text. if_err_then IsOwn (ok_or (origin_at (get (codes "Origin") row)) (Shape number)) _ (if_err_or IsOwn (origin_at (get (codes "Origin") row)) (Shape number) tt)
    (λ origin_text. if_err_then IsOwn (name_in_row number server_text) _ (name_own number server_text)
    (λ server. if_err_then IsOwn (origin_in number origin_text) _ (origin_own number origin_text) (λ origin. tt)))))

rows_own : (most : ℕ) (value : Data) → IfErr (rows_of most value) IsOwn
rows_own most value =
    if_err_then IsOwn (ok_or (list_at (codes "ZoneFiles") value) (Shape 0)) _ (if_err_or IsOwn (list_at (codes "ZoneFiles") value) (Shape 0) tt)
    (λ values. if_err_either IsOwn (nat_lt most (length values)) _ _ tt (each_own read_row row_own 1 values))

hosted_own : (top : Option Labels) (meta : Meta) → IfErr (unless_unhosted top meta) IsOwn
hosted_own None meta = tt
hosted_own (Some top) meta = tt

value_own : (most : ℕ) (value : Data) → IfErr (metadata_in most value) IsOwn
value_own most value =
    if_err_then IsOwn (tops_of value) _ (tops_own value)
    (λ tops. if_err_then IsOwn (rows_of most value) _ (rows_own most value) (λ rows. hosted_own (first_unhosted tops rows) (record { tops = tops; rows = rows })))

-- the fault of a metadata file says something of it
pub metadata_own : (most : ℕ) (octets : List ℕ) → IfErr (metadata_within most octets) IsOwn
metadata_own most octets =
    if_err_then IsOwn (ok_or (value_of octets) NotJson) _ (if_err_or IsOwn (value_of octets) NotJson tt) (value_own most)
