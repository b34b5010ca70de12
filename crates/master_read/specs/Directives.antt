-- What a directive says in its context (RFC 1035 section 5.1).
use Rattle.std.specs.Prelude.{ℕ, Bool, false, not, ◌&&◌, nat_eq, ◌==◌, List, [], ◌∷◌, length, codes, ok_or, if◌then◌else◌, Some, Result, Ok, Err}
use Rattle.std.specs.List.{starts_with}
use Rattle.std.specs.Str.{is_utf8}
use Rattle.dns_data.specs.Answers.{◌>>=◌, with_fault}
use Rattle.dns_data.specs.Name.{Labels}
use Rattle.dns_data.specs.Octet.{is_word}
use Rattle.dns_data.specs.Spelling.{name_of_text}
use Rattle.master_lex.specs.declared.entry.Entry.{Entry}
use Rattle.master_lex.specs.declared.entry.Token.{Token}
use Rattle.rdata_forms.specs.Texts.{resolved}
use Rattle.rdata_forms.specs.Times.{time_of}
use Rattle.master_read.specs.declared.context.Context.{Context}
use Rattle.master_read.specs.declared.fault.TextCause.{TextCause}
use Rattle.master_read.specs.declared.fault.TextCause.TheVariants.{BadDirective, NotSupported}

-- What a directive says: that the entries behind it have this context, or that a file is included, whose names stand
-- below an origin.
pub data Directive : Type 0 where
  Sets : (context : Context) → Directive
  Includes : (file : List ℕ) (origin : Labels) → Directive

-- the first token isn't quoted and begins with `$`
abbrev pub begins_with_dollar : List Token → Bool
begins_with_dollar [] = false
begins_with_dollar (token ∷ tokens) = not token.quoted && starts_with nat_eq token.raw (codes "$")

-- the entry is a directive: it stands at the front of its line and begins with `$`
abbrev pub is_directive : Entry → Bool
is_directive entry = not entry.blank_start && begins_with_dollar entry.tokens

-- the first of the tokens is the word `$INCLUDE`
abbrev pub includes : List Token → Bool
includes [] = false
includes (word ∷ arguments) = is_word (codes "$INCLUDE") word.raw

-- the entry is an `$INCLUDE`
abbrev pub is_include : Entry → Bool
is_include entry = is_directive entry && includes entry.tokens

-- the name that an argument gives, relative to the origin
abbrev pub named_below : Labels → Token → Result Labels TextCause
named_below origin token = with_fault (λ _. BadDirective) (name_of_text token.raw origin)

-- `$ORIGIN` and one name, relative to the origin so far
unfoldable pub origin_directive : Context → List Token → Result Directive TextCause
origin_directive context [] = Err BadDirective
origin_directive context (name ∷ []) = do
  origin ← named_below context.origin name
  Ok (Sets (record context { origin = origin }))
origin_directive context (name ∷ next ∷ tokens) = Err BadDirective

-- `$TTL` and one time (RFC 2308 section 4)
unfoldable pub ttl_directive : Context → List Token → Result Directive TextCause
ttl_directive context [] = Err BadDirective
ttl_directive context (time ∷ []) = do
  ttl ← ok_or (time_of time.raw) BadDirective
  Ok (Sets (record context { default_ttl = Some ttl }))
ttl_directive context (time ∷ next ∷ tokens) = Err BadDirective

-- the file that octets name: a text that isn't empty
abbrev pub file_named : List ℕ → Result (List ℕ) TextCause
file_named octets =
    if length octets == 0 then Err BadDirective
    else (if is_utf8 octets then Ok octets else Err BadDirective)

-- the origin of an included file: the name behind the file's, relative to the origin so far, else that origin
abbrev pub include_origin : Labels → List Token → Result Labels TextCause
include_origin origin [] = Ok origin
include_origin origin (name ∷ []) = named_below origin name
include_origin origin (name ∷ next ∷ tokens) = Err BadDirective

-- `$INCLUDE` and a file's name, its escapes resolved, and an origin for its entries or none
unfoldable pub include_directive : Context → List Token → Result Directive TextCause
include_directive context [] = Err BadDirective
include_directive context (name ∷ tokens) = do
  file ← file_named (resolved name.raw)
  origin ← include_origin context.origin tokens
  Ok (Includes file origin)

-- what a directive says, by its word
unfoldable pub directive_of : Context → List Token → Result Directive TextCause
directive_of context [] = Err BadDirective
directive_of context (word ∷ arguments) =
    if is_word (codes "$INCLUDE") word.raw then include_directive context arguments
    else (if is_word (codes "$ORIGIN") word.raw then origin_directive context arguments
    else (if is_word (codes "$TTL") word.raw then ttl_directive context arguments
    else (if is_word (codes "$GENERATE") word.raw then Err NotSupported
    else Err BadDirective)))
