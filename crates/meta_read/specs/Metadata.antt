-- Metadata: the top servers, and the rows of zone files. The steps are those of the format, in its order; the first
-- fault counts.
use Rattle.std.specs.Prelude.{ℕ, not, List, ok_or, Option, Some, None, Result, Ok, Err}
use Rattle.std.specs.List.{find, list_any}
use Rattle.serde_json.specs.Data.{Data}
use Rattle.dns_data.specs.Answers.{◌>>=◌}
use Rattle.dns_data.specs.Name.{Labels, name_eq}
use Rattle.meta_read.specs.Members.{value_of}
use Rattle.meta_read.specs.Tops.{tops_of}
use Rattle.meta_read.specs.Rows.{rows_of}
use Rattle.meta_read.specs.declared.fault.MetaFault.{MetaFault}
use Rattle.meta_read.specs.declared.fault.MetaFault.TheVariants.{NotJson, TopUnhosted}
use Rattle.meta_read.specs.declared.meta.Meta.{Meta}
use Rattle.meta_read.specs.declared.meta.MetaRow.{MetaRow}

-- the first of the top servers that has no row
abbrev pub first_unhosted : List Labels → List MetaRow → Option Labels
first_unhosted tops rows = find (λ top. not (list_any (λ row. name_eq top row.server) rows)) tops

-- the metadata, unless a top server has no row
abbrev pub unless_unhosted : Option Labels → Meta → Result Meta MetaFault
unless_unhosted None meta = Ok meta
unless_unhosted (Some top) meta = Err (TopUnhosted top)

-- the metadata of a value, with no more rows than this
abbrev pub metadata_in : ℕ → Data → Result Meta MetaFault
metadata_in most value = do
  tops ← tops_of value
  rows ← rows_of most value
  unless_unhosted (first_unhosted tops rows) (record { tops = tops; rows = rows })

-- the metadata of a file's octets, with no more rows than this
abbrev pub metadata_within : ℕ → List ℕ → Result Meta MetaFault
metadata_within most octets = do
  value ← ok_or (value_of octets) NotJson
  metadata_in most value

-- how many rows there may be, where nothing else is said
abbrev pub usual_rows : ℕ
usual_rows = 10000

-- the metadata of a file's octets, with no more rows than is usual
abbrev pub metadata_of : List ℕ → Result Meta MetaFault
metadata_of = metadata_within usual_rows
