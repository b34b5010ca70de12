-- The entries of a master file's text (RFC 1035 section 5.1).
use Rattle.std.specs.Prelude.{ℕ, ◌+◌, ◌-◌, Bool, false, ◌||◌, ◌==◌, nat_lt, if◌then◌else◌, List, [], ◌∷◌, ◌++◌, length, Option, Some, None}
use Rattle.master_lex.specs.declared.entry.Entry.{Entry}
use Rattle.master_lex.specs.declared.entry.Token.{Token}
use Rattle.master_lex.specs.declared.fault.LexFault.{LexFault}
use Rattle.master_lex.specs.declared.fault.LexKind.{LexKind}
use Rattle.master_lex.specs.declared.fault.LexKind.TheVariants.{OpenParen, StrayClose, TokenTooLong}
use Rattle.master_lex.specs.Lists.{is_empty}
use Rattle.master_lex.specs.Pieces.{Piece, Skipped, LineEnd, Opening, Closing, Written, Broken, pieces}

-- Where an entry has come to: the line, whether the entry's line began with a space or a tab, how many parentheses
-- are open, the lines of the outermost of them and of the first token, and the tokens.
pub record EntrySoFar : Type 0 where
  pub line : ℕ
  pub blank_start : Bool
  pub depth : ℕ
  pub opened : ℕ
  pub first : ℕ
  pub tokens : List Token

-- What a text holds: the entries that a line feed ends, the one that the text's end ends, and the first fault.
pub record Contents : Type 0 where
  pub whole : List Entry
  pub last : List Entry
  pub fault : Option LexFault

-- a space or a tab stands in front of the pieces
abbrev pub begins_blank : List Piece → Bool
begins_blank (Skipped octet ∷ rest) = octet == 32 || octet == 9
begins_blank _ = false

-- the start of an entry in this line, before these pieces: it has no token yet
abbrev pub entry_start : ℕ → List Piece → EntrySoFar
entry_start line rest = record { line = line; blank_start = begins_blank rest; depth = 0; opened = 0; first = 0; tokens = [] }

-- the entry so far with one token more
abbrev pub with_token : EntrySoFar → Bool → List ℕ → EntrySoFar
with_token place quoted octets = record place {
  first = (if is_empty place.tokens then place.line else place.first);
  tokens = place.tokens ++ record { raw = octets; quoted = quoted } ∷ [];
}

-- the entry so far with one open parenthesis more
abbrev pub with_parenthesis : EntrySoFar → EntrySoFar
with_parenthesis place = record place { depth = place.depth + 1; opened = (if place.depth == 0 then place.line else place.opened) }

-- the entry, which is none without a token
abbrev pub entry_at : EntrySoFar → List Entry
entry_at place = if is_empty place.tokens then [] else record { line = place.first; blank_start = place.blank_start; tokens = place.tokens } ∷ []

-- the contents of a text that ends in a fault, reported at this line
abbrev pub fails : ℕ → LexKind → Contents
fails line kind = record { whole = []; last = []; fault = Some (record { line = line; kind = kind }) }

-- the contents with these entries in front
abbrev pub behind : List Entry → Contents → Contents
behind entries rest = record rest { whole = entries ++ rest.whole }

-- what pieces hold from this place on: a line feed ends the entry outside parentheses, and a token has at most
-- 131,072 octets
abbrev pub contents_from : EntrySoFar → List Piece → Contents
contents_from place [] =
    if place.depth == 0 then record { whole = []; last = entry_at place; fault = None }
    else fails place.opened OpenParen
contents_from place (Skipped octet ∷ rest) = contents_from place rest
contents_from place (LineEnd ∷ rest) =
    if place.depth == 0 then behind (entry_at place) (contents_from (entry_start (place.line + 1) rest) rest)
    else contents_from (record place { line = place.line + 1 }) rest
contents_from place (Opening ∷ rest) = contents_from (with_parenthesis place) rest
contents_from place (Closing ∷ rest) =
    if place.depth == 0 then fails place.line StrayClose
    else contents_from (record place { depth = place.depth - 1 }) rest
contents_from place (Written quoted octets ∷ rest) =
    if nat_lt 131072 (length octets) then fails place.line TokenTooLong
    else contents_from (with_token place quoted octets) rest
contents_from place (Broken kind ∷ rest) = fails place.line kind

-- what a text holds
abbrev pub contents : List ℕ → Contents
contents text = contents_from (entry_start 1 (pieces text)) (pieces text)

-- the entries of a text, up to its first fault
abbrev pub text_entries : List ℕ → List Entry
text_entries text = (contents text).whole ++ (contents text).last

-- the first fault of a text
abbrev pub text_fault : List ℕ → Option LexFault
text_fault text = (contents text).fault
