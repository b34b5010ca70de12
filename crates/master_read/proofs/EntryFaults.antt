-- Each fault of a text says something of the text: no definition speaks of `NoMemory`.
use Rattle.std.proofs.Common.{◌≡◌, ◌≢◌, inl, inr, subst, sym, ℕ, zero, suc, true, ◌&&◌, ◌==◌, nat_le, length, refl, List, [], ◌∷◌, codes, is_none, Option, Some, None, Result, Ok, Err}
use Rattle.std.specs.Result.{IfErr}
use Rattle.std.specs.Str.{is_utf8}
use Rattle.std.proofs.lemmas.Result.{IfErr-at_err, MatchResult-weaker}
use Rattle.dns_data.proofs.Answers.{if_err_then, if_err_told, if_err_or, if_err_either}
use Rattle.dns_data.proofs.NameFaults.{IsTold as IsNameTold, name_told}
use Rattle.dns_data.specs.Answers.{AnswersOr, with_fault}
use Rattle.dns_data.specs.Name.{Labels}
use Rattle.dns_data.specs.Octet.{is_word}
use Rattle.dns_data.specs.Spelling.{name_of_text}
use Rattle.dns_data.specs.declared.fault.NameFault.{NameFault}
use Rattle.dns_data.specs.declared.fault.NameFault.TheVariants as name_faults
use Rattle.dns_data.specs.declared.rdata.Rdata.{Rdata}
use Rattle.master_lex.specs.Contents.{text_entries, text_fault}
use Rattle.master_lex.specs.declared.entry.Entry.{Entry}
use Rattle.master_lex.specs.declared.entry.Token.{Token}
use Rattle.master_lex.specs.declared.fault.LexFault.{LexFault}
use Rattle.rdata_forms.proofs.Named.{IsSaid, reads-data, reads-other}
use Rattle.rdata_forms.specs.Forms.{rdata_of, other_of}
use Rattle.rdata_forms.specs.Texts.{resolved}
use Rattle.rdata_forms.specs.Times.{time_of}
use Rattle.rdata_forms.specs.declared.fault.RdataFault.{RdataFault}
use Rattle.rdata_forms.specs.declared.fault.RdataFault.TheVariants as rdata_faults
use Rattle.master_read.specs.Directives.{is_directive, named_below, origin_directive, ttl_directive, file_named, include_origin, include_directive, directive_of}
use Rattle.master_read.specs.Entries.{written_owner, owner_of, behind_owner, Front, front_of, begins_with_digit, with_class_word, with_next as with_next_word, one_more, front_in, type_said, as_data, data_by, data_behind, ttl_of, made_of, record_of}
use Rattle.master_read.specs.Fault.{tells_of_name, tells_of_data, tells_of_text, TellsOfText}
use Rattle.master_read.specs.Reader.{Held}
use Rattle.master_read.specs.Steps.{fault_at, IsFaultOf, entry_makes}
use Rattle.master_read.specs.Words.{type_word, class_word}
use Rattle.master_read.specs.ZoneText.{Unread, Faulty, Asks, TellsOfUnread, Progress, Effect, Leaves, Opens, Include, no_records, at, with_made, effect_of, with_effect, with_entry, with_entries, ended, with_rest, with_include, with_next_text, one_included, included, most_levels, zone_text}
use Rattle.master_read.specs.declared.context.Context.{Context}
use Rattle.master_read.specs.declared.fault.EntryFault.{EntryFault}
use Rattle.master_read.specs.declared.fault.EntryFault.TheVariants.{Cause, NoMemory as WantsMemory}
use Rattle.master_read.specs.declared.fault.TextCause.{TextCause}
use Rattle.master_read.specs.declared.fault.TextCause.TheVariants.{BadDirective, BadOwner, NoOwner, NoTtl, BadTtl, UnknownType, Rdata as BadData}
use Rattle.master_read.specs.declared.fault.TextFault.{TextFault}
use Rattle.master_read.specs.declared.fault.TextFault.TheVariants.{At, NoMemory}
use Rattle.master_read.specs.declared.records.ReadLimits.{ReadLimits}
use Rattle.master_read.specs.declared.records.Records.{Records}
use Rattle.master_read.specs.declared.words.ClassWord.{ClassWord}
use Rattle.master_read.specs.declared.words.ClassWord.TheVariants.{In, NotIn}
use Rattle.master_read.specs.declared.words.TypeWord.{TypeWord}
use Rattle.master_read.specs.declared.words.TypeWord.TheVariants.{Known, Dropped, Other}

-- a cause says something of the text
abbrev pub IsTold : TextCause → Type 0
IsTold cause = tells_of_text cause ≡ true

-- the cause of a step's fault, if it has one, says something of the text
abbrev pub SaysTold : {T : Type 0} → Result T TextCause → Type 0
SaysTold said = IfErr said IsTold

-- ---- faults that stand in causes

name_fault : (fault : NameFault) → IsNameTold fault → tells_of_name fault ≡ true
name_fault name_faults.EmptyLabel told = refl
name_fault name_faults.LabelTooLong told = refl
name_fault name_faults.NameTooLong told = refl
name_fault name_faults.BadEscape told = refl
name_fault name_faults.NoMemory told = absurd (told refl)

data_fault : (fault : RdataFault) → IsSaid fault → tells_of_data fault ≡ true
data_fault rdata_faults.FieldCount said = refl
data_fault rdata_faults.BadNumber said = refl
data_fault rdata_faults.BadAddress said = refl
data_fault (rdata_faults.BadName fault) said = name_fault fault (λ e. said.named (cc e))
data_fault rdata_faults.TextTooLong said = refl
data_fault rdata_faults.BadHex said = refl
data_fault rdata_faults.GenericKnown said = refl
data_fault rdata_faults.NoMemory said = absurd (said.own refl)

-- ---- directives

named_told : (origin : Labels) (token : Token) → SaysTold (named_below origin token)
named_told origin token = one (name_of_text token.raw origin) where
  one : (said : Result Labels NameFault) → SaysTold (with_fault (λ _. BadDirective) said)
  one (Ok name) = tt
  one (Err fault) = refl

origin_told : (context : Context) (tokens : List Token) → SaysTold (origin_directive context tokens)
unfolding origin_directive
origin_told context [] = refl
origin_told context (name ∷ []) = if_err_then IsTold (named_below context.origin name) _ (named_told context.origin name) (λ origin. tt)
origin_told context (name ∷ next ∷ tokens) = refl

ttl_told : (context : Context) (tokens : List Token) → SaysTold (ttl_directive context tokens)
unfolding ttl_directive
ttl_told context [] = refl
ttl_told context (time ∷ []) = if_err_then IsTold _ _ (if_err_or IsTold (time_of time.raw) BadDirective refl) (λ ttl. tt)
ttl_told context (time ∷ next ∷ tokens) = refl

file_told : (octets : List ℕ) → SaysTold (file_named octets)
file_told octets = if_err_either IsTold (length octets == 0) _ _ refl (if_err_either IsTold (is_utf8 octets) _ _ tt refl)

below_told : (origin : Labels) (tokens : List Token) → SaysTold (include_origin origin tokens)
below_told origin [] = tt
below_told origin (name ∷ []) = named_told origin name
below_told origin (name ∷ next ∷ tokens) = refl

include_told : (context : Context) (tokens : List Token) → SaysTold (include_directive context tokens)
unfolding include_directive
include_told context [] = refl
include_told context (name ∷ tokens) =
    if_err_then IsTold (file_named (resolved name.raw)) _ (file_told (resolved name.raw)) (λ file.
    if_err_then IsTold (include_origin context.origin tokens) _ (below_told context.origin tokens) (λ origin. tt))

directive_told : (context : Context) (tokens : List Token) → SaysTold (directive_of context tokens)
unfolding directive_of
directive_told context [] = refl
directive_told context (word ∷ arguments) =
    if_err_either IsTold (is_word (codes "$INCLUDE") word.raw) _ _ (include_told context arguments)
    (if_err_either IsTold (is_word (codes "$ORIGIN") word.raw) _ _ (origin_told context arguments)
    (if_err_either IsTold (is_word (codes "$TTL") word.raw) _ _ (ttl_told context arguments)
    (if_err_either IsTold (is_word (codes "$GENERATE") word.raw) _ _ refl refl)))

-- ---- records

written_told : (context : Context) (tokens : List Token) → SaysTold (written_owner context tokens)
written_told context [] = refl
written_told context (token ∷ tokens) =
    if_err_told IsTold BadOwner (name_of_text token.raw context.origin) (MatchResult-weaker (name_of_text token.raw context.origin) (name_told token.raw context.origin) (λ owner h. h) name_fault)

owner_told : (context : Context) (entry : Entry) → SaysTold (owner_of context entry)
unfolding owner_of
owner_told context entry = if_err_either IsTold entry.blank_start _ _ (if_err_or IsTold context.owner NoOwner refl) (written_told context entry.tokens)

class_told : (front : Front) (tokens : List Token) (class : Option ClassWord) → SaysTold (with_class_word front tokens class)
class_told front tokens (Some In) = tt
class_told front tokens (Some NotIn) = refl
class_told front tokens None = tt

more_told : (front : Front) → SaysTold (one_more front)
unfolding one_more
more_told front = next front.tokens where
  next : (tokens : List Token) → SaysTold (with_next_word front tokens)
  next [] = tt
  next (token ∷ tokens) =
      if_err_either IsTold token.quoted _ _ tt
      (if_err_either IsTold (is_none front.ttl && begins_with_digit token.raw) _ _
      (if_err_then IsTold _ _ (if_err_or IsTold (time_of token.raw) BadTtl refl) (λ ttl. tt))
      (if_err_either IsTold front.class _ _ tt (class_told front tokens (class_word token.raw))))

front_told : (tokens : List Token) → SaysTold (front_in tokens)
unfolding front_in
front_told tokens = if_err_then IsTold (one_more (front_of tokens)) _ (more_told (front_of tokens)) (λ first. more_told first)

type_told : (token : Token) → SaysTold (type_said token)
unfolding type_said
type_told token = if_err_either IsTold token.quoted _ _ refl (if_err_or IsTold (type_word token.raw) UnknownType refl)

as_data_told : (said : Result Rdata RdataFault) → IfErr said IsSaid → SaysTold (as_data said)
as_data_told said h =
    if_err_then IsTold (with_fault BadData said) _ (if_err_told IsTold BadData said (MatchResult-weaker said h (λ rdata k. k) data_fault)) (λ rdata. tt)

data_by_told : (said : TypeWord) (word : Token) (fields : List Token) (origin : Labels) → SaysTold (data_by said word fields origin)
data_by_told (Known rtype) word fields origin = as_data_told (rdata_of rtype fields origin) (reads-data rtype fields origin)
data_by_told Other word fields origin = as_data_told (other_of _ fields) (reads-other _ fields)
data_by_told Dropped word fields origin = tt

data_told : (tokens : List Token) (origin : Labels) → SaysTold (data_behind tokens origin)
unfolding data_behind
data_told [] origin = refl
data_told (word ∷ fields) origin = if_err_then IsTold (type_said word) _ (type_told word) (λ said. data_by_told said word fields origin)

made_told : (context : Context) (owner : Labels) (stated : Option ℕ) (file line : ℕ) (rdata : Option Rdata) → SaysTold (made_of context owner stated file line rdata)
unfolding made_of
made_told context owner stated file line None = tt
made_told context owner stated file line (Some rdata) = if_err_then IsTold _ _ (if_err_or IsTold (ttl_of context stated rdata) NoTtl refl) (λ ttl. tt)

record_told : (file : ℕ) (context : Context) (entry : Entry) → SaysTold (record_of file context entry)
unfolding record_of
record_told file context entry =
    if_err_then IsTold (owner_of context entry) _ (owner_told context entry) (λ owner.
    if_err_then IsTold (front_in (behind_owner entry)) _ (front_told (behind_owner entry)) (λ front.
    if_err_then IsTold (data_behind front.tokens context.origin) _ (data_told front.tokens context.origin) (λ rdata.
    made_told _ owner front.ttl file entry.line rdata)))

-- ---- entries and texts

-- the fault of an entry says something of the text
entry_told : (room file : ℕ) (so_far : Records) (entry : Entry) → SaysTold (effect_of room file so_far entry)
unfolding effect_of
entry_told room file so_far entry =
    if_err_either IsTold (is_directive entry) _ _
    (if_err_then IsTold (directive_of so_far.context entry.tokens) _ (directive_told so_far.context entry.tokens) (λ directive. tt))
    (if_err_then IsTold (record_of file so_far.context entry) _ (record_told file so_far.context entry) (λ made.
    if_err_then IsTold (with_made room so_far made) _ (if_err_either IsTold (nat_le room so_far.seen) _ _ refl tt) (λ records. tt)))

-- the fault of a call that answers what the definition says tells of the text
pub fault_told : (room file line : ℕ) (so_far : Records) (entry : Entry) (fault : EntryFault)
    → AnswersOr WantsMemory (Err fault) (with_fault Cause (effect_of room file so_far entry)) → TellsOfText (fault_at file line fault)
fault_told room file line so_far entry WantsMemory h = tt
fault_told room file line so_far entry (Cause cause) (inl free) = absurd cc
fault_told room file line so_far entry (Cause cause) (inr same) = carried (effect_of room file so_far entry) (entry_told room file so_far entry) same where
  carried : (said : Result Effect TextCause) → SaysTold said → with_fault Cause said ≡ Err (Cause cause) → IsTold cause
  carried (Ok more) told e = absurd cc
  carried (Err fault) told e = let is : fault ≡ cause = cc in subst IsTold is told

-- a fault of texts is no `NoMemory`, and none stands in it
pub record IsTextFault (fault : TextFault) : Type 0 where
  pub own : fault ≢ NoMemory
  pub tells : TellsOfText fault

-- texts that don't read on: by a fault of a text, or because they ask for a file
abbrev pub IsUnread : Unread → Type 0
IsUnread (Faulty fault) = IsTextFault fault
IsUnread (Asks file) = Unit {0}

-- a fault of texts, or the file that they ask for, is no `NoMemory`, and none stands in it
pub unread_tells : (unread : Unread) → IsUnread unread → TellsOfUnread unread
unread_tells (Faulty fault) said = said.tells
unread_tells (Asks file) said = tt

-- the faults of texts that go on are such
abbrev ToldBy : Include → Type 0
ToldBy include = (file line : ℕ) (name : List ℕ) (origin : Labels) (progress : Progress) → IfErr (include file line name origin progress) IsUnread

effect_told : (include : Include) → ToldBy include → (file line : ℕ) (effect : Effect) (progress : Progress) → IfErr (with_effect include file line effect progress) IsUnread
effect_told include told file line (Leaves records) progress = tt
effect_told include told file line (Opens name origin) progress = told file line name origin progress

with_entry_told : (include : Include) → ToldBy include → (room file : ℕ) (entry : Entry) (progress : Progress) → IfErr (with_entry include room file entry progress) IsUnread
unfolding with_entry
with_entry_told include told room file entry progress =
    if_err_then IsUnread (at file entry.line (effect_of room file progress.records entry)) _
    (if_err_told IsUnread (λ cause. Faulty (At file entry.line cause)) (effect_of room file progress.records entry)
    (MatchResult-weaker (effect_of room file progress.records entry) (entry_told room file progress.records entry) (λ more h. h) (λ cause said. record { own = λ e. cc; tells = said })))
    (λ effect. effect_told include told file entry.line effect progress)

with_entries_told : (include : Include) → ToldBy include → (room file : ℕ) (entries : List Entry) (progress : Progress) → IfErr (with_entries include room file entries progress) IsUnread
unfolding with_entries
with_entries_told include told room file [] progress = tt
with_entries_told include told room file (entry ∷ entries) progress =
    if_err_then IsUnread (with_entry include room file entry progress) _ (with_entry_told include told room file entry progress)
    (λ more. with_entries_told include told room file entries more)

ended_told : (file : ℕ) (before : Context) (fault : Option LexFault) (progress : Progress) → IfErr (ended file before fault progress) IsUnread
ended_told file before None progress = tt
ended_told file before (Some fault) progress = record { own = λ e. cc; tells = refl }

with_file_told : (include : Include) → ToldBy include → (room : ℕ) (origin : Labels) (text : List ℕ) (progress : Progress) → IfErr (with_include include room origin text progress) IsUnread
unfolding with_rest
with_file_told include told room origin text progress =
    if_err_then IsUnread (with_entries include room progress.records.included (text_entries text) _) _
    (with_entries_told include told room progress.records.included (text_entries text) _)
    (λ more. ended_told progress.records.included progress.records.context (text_fault text) more)

next_told : (include : Include) → ToldBy include → (room : ℕ) (name : List ℕ) (origin : Labels) (progress : Progress) (texts : List (List ℕ))
    → IfErr (with_next_text name (with_include include room origin) progress texts) IsUnread
next_told include told room name origin progress [] = tt
next_told include told room name origin progress (text ∷ texts) = with_file_told include told room origin text _

-- whatever may be included below a file, its fault is no `NoMemory`, and none stands in it
pub included_told : (limits : ReadLimits) (levels : ℕ) → ToldBy (included limits levels)
unfolding included
included_told limits zero file line name origin progress = record { own = λ e. cc; tells = refl }
included_told limits (suc levels) file line name origin progress =
    if_err_either IsUnread (nat_le limits.includes progress.records.included) _ _ (record { own = λ e. cc; tells = refl })
    (next_told (included limits levels) (included_told limits levels) limits.room name origin (one_included progress) progress.texts)

-- the fault that an entry of an open file makes says something of the text
pub makes_told : (held : Held) (entry : Entry) (texts : List (List ℕ)) (fault : TextFault) → IsFaultOf fault (entry_makes held entry texts) → TellsOfText fault
makes_told held entry texts fault (inl free) = subst TellsOfText (sym free) tt
makes_told held entry texts fault (inr same) =
    let told : IsTextFault fault = IfErr-at_err IsUnread same (with_entry_told (included held.limits held.file.levels) (included_told held.limits held.file.levels) held.limits.room held.file.number entry (record { records = held.records; texts = texts })) in
    told.tells

-- the fault of texts says something of them
pub texts_told : (origin : Labels) (room includes : ℕ) (texts : List (List ℕ)) → IfErr (zone_text origin room includes texts) IsUnread
unfolding zone_text
texts_told origin room includes [] = tt
texts_told origin room includes (text ∷ texts) =
    let include : Include = included (record { room = room; includes = includes }) most_levels in
    let start : Progress = record { records = no_records; texts = texts } in
    if_err_then IsUnread (with_include include room origin text start) _
    (with_file_told include (included_told (record { room = room; includes = includes }) most_levels) room origin text start) (λ progress. tt)
