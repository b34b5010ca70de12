-- What a record entry of a master file makes in its context: the steps in order, each with its faults
-- (RFC 1035 section 5.1).
use Rattle.std.specs.Prelude.{ℕ, Bool, true, false, ◌&&◌, List, [], ◌∷◌, map, drop, is_none, ok_or, if◌then◌else◌, Option, Some, None, Result, Ok, Err}
use Rattle.std.specs.Option.{option_or}
use Rattle.dns_data.specs.Answers.{◌>>=◌, with_fault}
use Rattle.dns_data.specs.Name.{Labels}
use Rattle.dns_data.specs.Octet.{is_digit, raised}
use Rattle.dns_data.specs.Spelling.{name_of_text}
use Rattle.dns_data.specs.declared.rdata.Rdata.{Rdata}
use Rattle.dns_data.specs.declared.rdata.Rdata.TheVariants.{Soa}
use Rattle.dns_data.specs.declared.rdata.Rr.{Rr}
use Rattle.master_lex.specs.declared.entry.Entry.{Entry}
use Rattle.master_lex.specs.declared.entry.Token.{Token}
use Rattle.rdata_forms.specs.Forms.{rdata_of, other_of}
use Rattle.rdata_forms.specs.Times.{time_of}
use Rattle.rdata_forms.specs.declared.fault.RdataFault.{RdataFault}
use Rattle.master_read.specs.Context.{behind_record, inherited_ttl, behind_data}
use Rattle.master_read.specs.Words.{type_word, class_word}
use Rattle.master_read.specs.declared.context.Context.{Context}
use Rattle.master_read.specs.declared.fault.TextCause.{TextCause}
use Rattle.master_read.specs.declared.fault.TextCause.TheVariants.{BadOwner, NoOwner, NoType, UnknownType, NotIn as ClassNotIn, BadTtl, Rdata as BadData, NoTtl}
use Rattle.master_read.specs.declared.words.ClassWord.{ClassWord}
use Rattle.master_read.specs.declared.words.ClassWord.TheVariants.{In, NotIn}
use Rattle.master_read.specs.declared.words.TypeWord.{TypeWord}
use Rattle.master_read.specs.declared.words.TypeWord.TheVariants.{Known, Dropped, Other}

-- The first step: the owner.

-- the owner that the first token gives; an entry has a token
abbrev pub written_owner : Context → List Token → Result Labels TextCause
written_owner context [] = Err NoType
written_owner context (token ∷ tokens) = with_fault BadOwner (name_of_text token.raw context.origin)

-- the owner of a record: the last one where the line begins blank, else the first token's
unfoldable pub owner_of : Context → Entry → Result Labels TextCause
owner_of context entry = if entry.blank_start then ok_or context.owner NoOwner else written_owner context entry.tokens

-- the tokens behind the owner
abbrev pub behind_owner : Entry → List Token
behind_owner entry = if entry.blank_start then entry.tokens else drop 1 entry.tokens

-- The second step: the TTL and the class, in either order, each at most once.

-- what stood in front of the type so far: the TTL, whether the class, and the tokens from there on
pub record Front : Type 0 where
  pub ttl : Option ℕ
  pub class : Bool
  pub tokens : List Token

-- nothing stood in front of these tokens
abbrev pub front_of : List Token → Front
front_of tokens = record { ttl = None; class = false; tokens = tokens }

-- the first octet is a digit
abbrev pub begins_with_digit : List ℕ → Bool
begins_with_digit [] = false
begins_with_digit (octet ∷ octets) = is_digit octet

-- what stood in front of the type, with this TTL, behind its token
abbrev pub with_ttl : Front → List Token → Option ℕ → Result Front TextCause
with_ttl front tokens stated = do
  ttl ← ok_or stated BadTtl
  Ok (record front { ttl = Some ttl; tokens = tokens })

-- what stood in front of the type, with this class, behind its token; a word that is no class's is left where it is
abbrev pub with_class_word : Front → List Token → Option ClassWord → Result Front TextCause
with_class_word front tokens (Some In) = Ok (record front { class = true; tokens = tokens })
with_class_word front tokens (Some NotIn) = Err ClassNotIn
with_class_word front tokens None = Ok front

-- what stood in front of the type, with the next token if it is a TTL or a class and none such was taken
abbrev pub with_word : Front → Token → List Token → Result Front TextCause
with_word front token tokens =
    if token.quoted then Ok front
    else (if is_none front.ttl && begins_with_digit token.raw then with_ttl front tokens (time_of token.raw)
    else (if front.class then Ok front else with_class_word front tokens (class_word token.raw)))

-- what stood in front with one token more, if there is a next token that may stand there
abbrev pub with_next : Front → List Token → Result Front TextCause
with_next front [] = Ok front
with_next front (token ∷ tokens) = with_word front token tokens

-- one word more of what stands in front of the type
unfoldable pub one_more : Front → Result Front TextCause
one_more front = with_next front front.tokens

-- what stands in front of the type: at most two words, since each is taken once
unfoldable pub front_in : List Token → Result Front TextCause
front_in tokens = do
  first ← one_more (front_of tokens)
  one_more first

-- The third and the fourth step: the type and its data.

-- what the token where the type stands says
unfoldable pub type_said : Token → Result TypeWord TextCause
type_said token = if token.quoted then Err UnknownType else ok_or (type_word token.raw) UnknownType

-- the data, as a record's
abbrev pub as_data : Result Rdata RdataFault → Result (Option Rdata) TextCause
as_data said = do
  rdata ← with_fault BadData said
  Ok (Some rdata)

-- the data of a type; those of a dropped type aren't looked at
abbrev pub data_by : TypeWord → Token → List Token → Labels → Result (Option Rdata) TextCause
data_by (Known rtype) word fields origin = as_data (rdata_of rtype fields origin)
data_by Other word fields origin = as_data (other_of (map raised word.raw) fields)
data_by Dropped word fields origin = Ok None

-- the data behind a type's word, or none where the record is dropped
unfoldable pub data_behind : List Token → Labels → Result (Option Rdata) TextCause
data_behind [] origin = Err NoType
data_behind (word ∷ fields) origin = do
  said ← type_said word
  data_by said word fields origin

-- The fifth step: the TTL.

-- the TTL that data say themselves: the MINIMUM of an SOA
abbrev pub own_ttl : Rdata → Option ℕ
own_ttl (Soa mname rname serial refresh retry expire minimum) = Some minimum
own_ttl rdata = None

-- the TTL of a record: the stated one, else the inherited one, else that which its data say
abbrev pub ttl_of : Context → Option ℕ → Rdata → Option ℕ
ttl_of context stated rdata = option_or stated (option_or (inherited_ttl context) (own_ttl rdata))

-- What a record entry makes: the context behind it, and the record, unless it is dropped.
pub record Made : Type 0 where
  pub context : Context
  pub rr : Option Rr

-- the record with these data, which stands in this file and line; a dropped one needs no TTL
unfoldable pub made_of : Context → Labels → Option ℕ → ℕ → ℕ → Option Rdata → Result Made TextCause
made_of context owner stated file line None = Ok (record { context = context; rr = None })
made_of context owner stated file line (Some rdata) = do
  ttl ← ok_or (ttl_of context stated rdata) NoTtl
  Ok (record {
    context = behind_data context (own_ttl rdata);
    rr = Some (record { owner = owner; ttl = ttl; rdata = rdata; file = file; line = line });
  })

-- what a record entry makes that stands in the file of this number
unfoldable pub record_of : ℕ → Context → Entry → Result Made TextCause
record_of file context entry = do
  owner ← owner_of context entry
  front ← front_in (behind_owner entry)
  rdata ← data_behind front.tokens context.origin
  made_of (behind_record context owner front.ttl) owner front.ttl file entry.line rdata
