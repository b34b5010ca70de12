-- The records of the texts of a zone's files (RFC 1035 section 5).
use Rattle.std.specs.Prelude.{ℕ, zero, suc, not, filter, ◌+◌, nat_le, List, [], ◌∷◌, ◌++◌, take, option_to_list, if◌then◌else◌, Option, Some, None, Result, Ok, Err}
use Rattle.std.specs.List.{flat_map}
use Rattle.dns_data.specs.Answers.{◌>>=◌, with_fault}
use Rattle.dns_data.specs.Name.{Labels}
use Rattle.master_lex.specs.Contents.{text_entries, text_fault}
use Rattle.master_lex.specs.declared.entry.Entry.{Entry}
use Rattle.master_lex.specs.declared.fault.LexFault.{LexFault}
use Rattle.master_read.specs.Context.{no_context, under, back_at}
use Rattle.master_read.specs.Directives.{Directive, Sets, Includes, is_directive, directive_of}
use Rattle.master_read.specs.Entries.{Made, record_of}
use Rattle.master_read.specs.Fault.{TellsOfText}
use Rattle.master_read.specs.declared.context.Context.{Context}
use Rattle.master_read.specs.declared.fault.TextCause.{TextCause}
use Rattle.master_read.specs.declared.fault.TextCause.TheVariants.{Lex, TooMany, IncludeDepth, TooManyIncludes}
use Rattle.master_read.specs.declared.fault.TextFault.{TextFault}
use Rattle.master_read.specs.declared.fault.TextFault.TheVariants.{At}
use Rattle.master_read.specs.declared.records.ReadLimits.{ReadLimits}
use Rattle.master_read.specs.declared.records.Records.{Records}
use Rattle.master_read.specs.declared.zone_text.ZoneText.{ZoneText}

-- Why texts don't read to their end: the first fault in them, or a file is to be opened whose text isn't among them.
pub data Unread : Type 0 where
  Faulty : (fault : TextFault) → Unread
  Asks : (file : List ℕ) → Unread

-- an answer that memory ran out never stands inside
abbrev pub TellsOfUnread : Unread → Type 0
TellsOfUnread (Faulty fault) = TellsOfText fault
TellsOfUnread (Asks file) = Unit {0}

-- what was read so far, and the texts of the files that are to be opened next
pub record Progress : Type 0 where
  pub records : Records
  pub texts : List (List ℕ)

-- the records before anything was read: none
abbrev pub no_records : Records
no_records = record { context = no_context; rrs = []; seen = 0; included = 0 }

-- what was read so far, with another context for what follows
abbrev pub in_context : Progress → Context → Progress
in_context progress context = record progress { records = record progress.records { context = context } }

-- a fault in the file of this number, in this line
abbrev pub at : {T : Type 0} → ℕ → ℕ → Result T TextCause → Result T Unread
at file line said = with_fault (λ cause. Faulty (At file line cause)) said

-- What an entry makes: more records or other context, or that a file is opened, whose names stand below an origin.
pub data Effect : Type 0 where
  Leaves : (records : Records) → Effect
  Opens : (file : List ℕ) (origin : Labels) → Effect

-- what a directive says
abbrev pub said_by : Records → Directive → Effect
said_by so_far (Sets context) = Leaves (record so_far { context = context })
said_by so_far (Includes file origin) = Opens file origin

-- the records with one record entry more, kept or dropped, if there is room for it
abbrev pub with_made : ℕ → Records → Made → Result Records TextCause
with_made room so_far made =
    if nat_le room so_far.seen then Err TooMany
    else Ok (record so_far { context = made.context; rrs = so_far.rrs ++ option_to_list made.rr; seen = so_far.seen + 1 })

-- what an entry makes that stands in the file of this number
unfoldable pub effect_of : ℕ → ℕ → Records → Entry → Result Effect TextCause
effect_of room file so_far entry =
    if is_directive entry
    then (do
      directive ← directive_of so_far.context entry.tokens
      Ok (said_by so_far directive))
    else (do
      made ← record_of file so_far.context entry
      records ← with_made room so_far made
      Ok (Leaves records))

-- What an `$INCLUDE` in this file and line makes, by the file's name and the origin of its entries.
abbrev pub Include : Type 0
Include = ℕ → ℕ → List ℕ → Labels → Progress → Result Progress Unread

-- what was read, with what an entry in this file and line makes
abbrev pub with_effect : Include → ℕ → ℕ → Effect → Progress → Result Progress Unread
with_effect include file line (Leaves records) progress = Ok (record progress { records = records })
with_effect include file line (Opens name origin) progress = include file line name origin progress

-- what was read, with one entry more of the file of this number
unfoldable pub with_entry : Include → ℕ → ℕ → Entry → Progress → Result Progress Unread
with_entry include room file entry progress = do
  effect ← at file entry.line (effect_of room file progress.records entry)
  with_effect include file entry.line effect progress

-- what was read, with these entries, each in the context that those before it leave, up to the first that has a fault
unfoldable pub with_entries : Include → ℕ → ℕ → List Entry → Progress → Result Progress Unread
with_entries include room file [] progress = Ok progress
with_entries include room file (entry ∷ entries) progress = do
  more ← with_entry include room file entry progress
  with_entries include room file entries more

-- What was read once a file has ended, or the fault of its spelling. The origin and the last owner are then those
-- before the file.
abbrev pub ended : ℕ → Context → Option LexFault → Progress → Result Progress Unread
ended file before None progress = Ok (in_context progress (back_at before progress.records.context))
ended file before (Some fault) progress = Err (Faulty (At file fault.line (Lex fault.kind)))

-- what was read once the entries of a file were read, and behind them the fault of its spelling or none
unfoldable pub with_rest : Include → ℕ → ℕ → Context → List Entry → Option LexFault → Progress → Result Progress Unread
with_rest include room file before entries fault progress = do
  more ← with_entries include room file entries progress
  ended file before fault more

-- what was read once a file under an origin was read. As many files were opened before it as were included so far.
abbrev pub with_include : Include → ℕ → Labels → List ℕ → Progress → Result Progress Unread
with_include include room origin text progress =
    with_rest include room progress.records.included progress.records.context (text_entries text) (text_fault text)
    (in_context progress (under origin progress.records.context))

-- what was read once the next file was read, which has this name; if no text is left, it is asked for
abbrev pub with_next_text : List ℕ → (List ℕ → Progress → Result Progress Unread) → Progress → List (List ℕ) → Result Progress Unread
with_next_text name next progress [] = Err (Asks name)
with_next_text name next progress (text ∷ texts) = next text (record progress { texts = texts })

-- what was read so far, with one file more included
abbrev pub one_included : Progress → Progress
one_included progress = record progress { records = record progress.records { included = progress.records.included + 1 } }

-- what an `$INCLUDE` makes of what was read, in a file below which only so many levels of included files may lie
unfoldable pub included : ReadLimits → ℕ → Include
included limits zero file line name origin progress = Err (Faulty (At file line IncludeDepth))
included limits (suc levels) file line name origin progress =
    if nat_le limits.includes progress.records.included then Err (Faulty (At file line TooManyIncludes))
    else with_next_text name (with_include (included limits levels) limits.room origin) (one_included progress) progress.texts

-- how many levels of included files may lie below a zone's file
abbrev pub most_levels : ℕ
most_levels = 8

-- what was read of a zone's files, without the context for what would follow
abbrev pub zone_text_of : Records → ZoneText
zone_text_of records = record { rrs = records.rrs; seen = records.seen; included = records.included }

-- what was read, as the records of a zone's files
abbrev pub as_zone_text : Result Progress Unread → Result ZoneText Unread
as_zone_text said = do
  progress ← said
  Ok (zone_text_of progress.records)

-- The records of a zone's files under an origin, where so many record entries have room and so many files may be
-- included. The texts are those of the files in the order in which they are opened; the first, which there always is,
-- is that of the zone's file. It is the first fault, or the file to be opened next, where the texts end there.
unfoldable pub zone_text : Labels → ℕ → ℕ → List (List ℕ) → Result ZoneText Unread
zone_text origin room includes [] = Ok (zone_text_of no_records)
zone_text origin room includes (text ∷ texts) =
    as_zone_text (with_include (included (record { room = room; includes = includes }) most_levels) room origin text (record { records = no_records; texts = texts }))

-- the entries that are records and no directives
abbrev pub record_entries : List Entry → List Entry
record_entries entries = filter (λ entry. not (is_directive entry)) entries

-- the record entries of the files that were opened, the zone's file and so many included ones
abbrev pub opened_record_entries : ℕ → List (List ℕ) → List Entry
opened_record_entries included texts = flat_map (λ text. record_entries (text_entries text)) (take (included + 1) texts)
