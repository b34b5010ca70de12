-- Lines of records whose owners are absolute and whose TTL is that of the file's first line, read one after another.
use Rattle.std.proofs.Common.{◌≡◌, ℕ, ◌+◌, ◌<◌, ◌≤◌, Bool, false, List, [], ◌∷◌, ◌++◌, map, length, codes, Option, Some, None, Result, Ok, Err, flat_map, nat_eq, nat_le, if◌then◌else◌, ok_or, refl, sym, ap, ap₂, ◌∙◌, arith, append_assoc, append-nil}
use Rattle.std.specs.List.{starts_with, AllByRecursion}
use Rattle.std.proofs.lemmas.Bool.Decides.{nat_tests}
use Rattle.dns_data.specs.Answers.{◌>>=◌, with_fault}
use Rattle.dns_data.specs.Name.{Labels}
use Rattle.dns_data.specs.Spelling.{name_of_text}
use Rattle.dns_data.specs.declared.fault.NameFault.{NameFault}
use Rattle.dns_data.specs.declared.rdata.Rdata.{Rdata}
use Rattle.dns_data.specs.declared.rdata.Rr.{Rr}
use Rattle.dns_data.specs.declared.rr_type.RrType.{RrType}
use Rattle.master_lex.specs.Contents.{text_entries, text_fault}
use Rattle.master_lex.specs.declared.entry.Entry.{Entry}
use Rattle.master_lex.specs.declared.entry.Token.{Token}
use Rattle.master_lex.specs.declared.fault.LexFault.{LexFault}
use Rattle.rdata_forms.specs.Forms.{rdata_of}
use Rattle.rdata_forms.specs.Times.{time_of}
use Rattle.rdata_forms.specs.declared.fault.RdataFault.{RdataFault}
use Rattle.master_read.specs.Context.{no_context, under, behind_record}
use Rattle.master_read.specs.Directives.{directive_of, ttl_directive}
use Rattle.master_read.specs.Entries.{Front, Made, front_of, front_in, one_more, with_ttl, with_class_word, begins_with_digit, owner_of, data_behind, data_by, as_data, type_said, made_of, record_of}
use Rattle.master_read.specs.Words.{class_word, type_word}
use Rattle.master_read.specs.ZoneText.{Unread, Progress, Effect, Leaves, Include, no_records, said_by, with_made, at, effect_of, with_effect, with_entry, with_entries, with_rest, ended, included, most_levels, as_zone_text, zone_text}
use Rattle.master_read.specs.declared.context.Context.{Context}
use Rattle.master_read.specs.declared.fault.TextCause.{TextCause}
use Rattle.master_read.specs.declared.fault.TextCause.TheVariants.{BadOwner, UnknownType, TooMany}
use Rattle.master_read.specs.declared.records.Records.{Records}
use Rattle.master_read.specs.declared.words.ClassWord.{ClassWord}
use Rattle.master_read.specs.declared.words.TypeWord.{TypeWord}
use Rattle.master_read.specs.declared.words.TypeWord.TheVariants.{Known}
use Rattle.drill_laws.proofs.Lines.{IsLine, line_text, bare, line_entry, line_entries, entries_of_lines, no_fault_of_lines}
use Rattle.drill_laws.proofs.Parts.{dollar_ttl, sixty}

-- A record as its line has it: the words of its owner, its type and its data, and what they stand for.
pub record Row : Type 0 where
  pub owner_text : List ℕ
  pub type_text : List ℕ
  pub fields : List (List ℕ)
  pub owner : Labels
  pub rtype : RrType
  pub rdata : Rdata

-- the words of its line
abbrev pub row_words : Row → List (List ℕ)
row_words row = row.owner_text ∷ row.type_text ∷ row.fields

-- a type's word that isn't taken for a TTL or a class
pub record IsTypeText (text : List ℕ) (rtype : RrType) : Type 0 where
  pub no_ttl : begins_with_digit text ≡ false
  pub no_class : class_word text ≡ None
  pub known : type_word text ≡ Some (Known rtype)

-- the words are plain, and stand for what is said
pub record IsRow (row : Row) : Type 0 where
  pub line : IsLine (row_words row)
  pub no_directive : starts_with nat_eq row.owner_text (codes "$") ≡ false
  pub owner_reads : name_of_text row.owner_text [] ≡ Ok row.owner
  pub type_reads : IsTypeText row.type_text row.rtype
  pub data_reads : rdata_of row.rtype (map bare row.fields) [] ≡ Ok row.rdata

-- the record of a row that stands in this line
abbrev pub row_rr : ℕ → Row → Rr
row_rr line row = record { owner = row.owner; ttl = 60; rdata = row.rdata; file = 0; line = line }

-- the records of rows in lines that are counted from this number on
abbrev pub rows_rrs : ℕ → List Row → List Rr
rows_rrs line [] = []
rows_rrs line (row ∷ rows) = row_rr line row ∷ rows_rrs (line + 1) rows

-- the first line of a file
abbrev pub ttl_line : List (List ℕ)
ttl_line = codes "$TTL" ∷ codes "60" ∷ []

-- ---- one row

-- the context behind a row of this owner, or behind the first line
abbrev context_at : Option Labels → Context
context_at owner = record { origin = []; default_ttl = Some 60; stated_ttl = None; owner = owner }

front_stays : (text : List ℕ) (rtype : RrType) (fields : List Token) → IsTypeText text rtype
    → one_more (front_of (bare text ∷ fields)) ≡ Ok (front_of (bare text ∷ fields))
unfolding one_more
front_stays text rtype fields is =
    let front : Front = front_of (bare text ∷ fields) in
    ap (λ (b : Bool). if b then with_ttl front fields (time_of text) else with_class_word front fields (class_word text)) is.no_ttl
    ∙ ap (λ (said : Option ClassWord). with_class_word front fields said) is.no_class

front_reads : (text : List ℕ) (rtype : RrType) (fields : List Token) → IsTypeText text rtype
    → front_in (bare text ∷ fields) ≡ Ok (front_of (bare text ∷ fields))
unfolding front_in
front_reads text rtype fields is =
    ap (λ (said : Result Front TextCause). said >>= (λ first. one_more first)) (front_stays text rtype fields is)
    ∙ front_stays text rtype fields is

data_there : (text : List ℕ) (rtype : RrType) (fields : List Token) (rdata : Rdata) → IsTypeText text rtype → rdata_of rtype fields [] ≡ Ok rdata
    → data_behind (bare text ∷ fields) [] ≡ Ok (Some rdata)
unfolding data_behind type_said
data_there text rtype fields rdata is reads =
    ap (λ (word : Option TypeWord). ok_or word UnknownType >>= (λ said. data_by said (bare text) fields [])) is.known
    ∙ ap (λ (said : Result Rdata RdataFault). as_data said) reads

record_there : (line : ℕ) (last : Option Labels) (row : Row) → IsRow row
    → record_of 0 (context_at last) (line_entry line (row_words row)) ≡ Ok (record { context = context_at (Some row.owner); rr = Some (row_rr line row) })
unfolding record_of owner_of made_of
record_there line last row is =
    let fields : List Token = map bare row.fields in
    ap (λ (said : Result Labels NameFault). with_fault BadOwner said >>= (λ owner. front_in (bare row.type_text ∷ fields) >>= (λ front. data_behind front.tokens [] >>= (λ rdata. made_of (behind_record (context_at last) owner front.ttl) owner front.ttl 0 line rdata)))) is.owner_reads
    ∙ ap (λ (said : Result Front TextCause). said >>= (λ front. data_behind front.tokens [] >>= (λ rdata. made_of (behind_record (context_at last) row.owner front.ttl) row.owner front.ttl 0 line rdata))) (front_reads row.type_text row.rtype fields is.type_reads)
    ∙ ap (λ (said : Result (Option Rdata) TextCause). said >>= (λ rdata. made_of (behind_record (context_at last) row.owner None) row.owner None 0 line rdata)) (data_there row.type_text row.rtype fields row.rdata is.type_reads is.data_reads)

-- the records so far
abbrev records_at : List Rr → ℕ → Option Labels → Records
records_at rrs seen last = record { context = context_at last; rrs = rrs; seen = seen; included = 0 }

has_room : (room seen : ℕ) → seen < room → nat_le room seen ≡ false
has_room room seen fits = grind (arith, nat_tests)

row_effect : (room line seen : ℕ) (rrs : List Rr) (last : Option Labels) (row : Row) → IsRow row → seen < room
    → effect_of room 0 (records_at rrs seen last) (line_entry line (row_words row)) ≡ Ok (Leaves (records_at (rrs ++ row_rr line row ∷ []) (seen + 1) (Some row.owner)))
unfolding effect_of
row_effect room line seen rrs last row is fits =
    let so_far : Records = records_at rrs seen last in
    let entry : Entry = line_entry line (row_words row) in
    ap (λ (b : Bool). if b
    then directive_of so_far.context entry.tokens >>= (λ directive. Ok (said_by so_far directive))
    else record_of 0 so_far.context entry >>= (λ made. with_made room so_far made >>= (λ records. Ok (Leaves records)))) is.no_directive
    ∙ ap (λ (said : Result Made TextCause). said >>= (λ made. with_made room so_far made >>= (λ records. Ok (Leaves records)))) (record_there line last row is)
    ∙ ap (λ (full : Bool). (if full then Err TooMany else Ok (records_at (rrs ++ row_rr line row ∷ []) (seen + 1) (Some row.owner))) >>= (λ records. Ok (Leaves records))) (has_room room seen fits)

-- ---- rows in order

abbrev progress_at : Records → Progress
progress_at records = record { records = records; texts = [] }

rows_read : (include : Include) (room line seen : ℕ) (rrs : List Rr) (last : Option Labels) (rows : List Row) → AllByRecursion IsRow rows → seen + length rows ≤ room
    → (behind : Option Labels) × (with_entries include room 0 (line_entries line (map row_words rows)) (progress_at (records_at rrs seen last)) ≡ Ok (progress_at (records_at (rrs ++ rows_rrs line rows) (seen + length rows) behind)))
unfolding with_entries with_entry
rows_read include room line seen rrs last [] are fits = (
  last,
  ap₂ (λ (all : List Rr) (count : ℕ). Ok (progress_at (records_at all count last))) (sym (append-nil rrs)) (let e : seen ≡ seen + 0 = omega arith in e),
)
rows_read include room line seen rrs last (row ∷ rows) are fits =
    let more = rows_read include room (line + 1) (seen + 1) (rrs ++ row_rr line row ∷ []) (Some row.owner) rows are.1 (omega (arith, fits)) in
    let count : (seen + 1) + length rows ≡ seen + length (row ∷ rows) = omega arith in (
      more.0,
      ap (λ (said : Result Effect TextCause). (at 0 line said >>= (λ effect. with_effect include 0 line effect (progress_at (records_at rrs seen last)))) >>= (λ progress. with_entries include room 0 (line_entries (line + 1) (map row_words rows)) progress)) (row_effect room line seen rrs last row are.0 (omega (arith, fits)))
          ∙ more.1
          ∙ ap₂ (λ (all : List Rr) (seen : ℕ). Ok (progress_at (records_at all seen more.0))) (append_assoc rrs (row_rr line row ∷ []) (rows_rrs (line + 1) rows)) count,
    )

-- ---- the text of a file

start : Progress
start = record { records = record no_records { context = under [] no_context }; texts = [] }

ttl_effect : (room : ℕ) → effect_of room 0 (start.records) (line_entry 1 ttl_line) ≡ Ok (Leaves (records_at [] 0 None))
unfolding start effect_of directive_of ttl_directive
ttl_effect room = refl

ttl_is_line : IsLine ttl_line
ttl_is_line = record { some = omega arith; plain = (dollar_ttl, (sixty, tt)) }

rows_are_lines : (rows : List Row) → AllByRecursion IsRow rows → AllByRecursion IsLine (map row_words rows)
rows_are_lines [] are = tt
rows_are_lines (row ∷ rows) are = (are.0.line, rows_are_lines rows are.1)

-- a file of rows behind its first line gives the records of these rows
pub text_of_rows : (room includes : ℕ) (text : List ℕ) (rows : List Row) → text ≡ flat_map line_text (ttl_line ∷ map row_words rows) → AllByRecursion IsRow rows → length rows ≤ room
    → zone_text [] room includes (text ∷ []) ≡ Ok (record { rrs = rows_rrs 2 rows; seen = length rows; included = 0 })
unfolding zone_text with_rest with_entries with_entry start
text_of_rows room includes text rows is are fits =
    let include : Include = included (record { room = room; includes = includes }) most_levels in
    let lines : List (List (List ℕ)) = ttl_line ∷ map row_words rows in
    let plain : AllByRecursion IsLine lines = (ttl_is_line, rows_are_lines rows are) in
    let read = rows_read include room 2 0 [] None rows are (omega (arith, fits)) in
    ap₂ (λ (entries : List Entry) (fault : Option LexFault). as_zone_text (with_rest include room 0 no_context entries fault start)) (ap text_entries is ∙ entries_of_lines lines plain) (ap text_fault is ∙ no_fault_of_lines lines plain)
    ∙ ap (λ (said : Result Effect TextCause). as_zone_text (((at 0 1 said >>= (λ effect. with_effect include 0 1 effect start)) >>= (λ progress. with_entries include room 0 (line_entries 2 (map row_words rows)) progress)) >>= (λ progress. ended 0 no_context None progress))) (ttl_effect room)
    ∙ ap (λ (said : Result Progress Unread). as_zone_text (said >>= (λ progress. ended 0 no_context None progress))) read.1
    ∙ ap (λ (count : ℕ). Ok (record { rrs = rows_rrs 2 rows; seen = count; included = 0 })) (let e : 0 + length rows ≡ length rows = omega arith in e)
