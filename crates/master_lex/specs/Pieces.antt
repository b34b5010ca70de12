-- The pieces of a master file's text (RFC 1035 section 5.1). The octets: 9 is the tab, 10 the line feed, 13 the
-- carriage return, 32 the space, and 34 40 41 59 92 are " ( ) ; \
use Rattle.std.specs.Prelude.{ℕ, Bool, true, false, ◌&&◌, ◌||◌, ◌==◌, nat_le, if◌then◌else◌, List, [], ◌∷◌, ◌++◌}
use Rattle.dns_data.specs.Octet.{is_digit, three_digit_value}
use Rattle.master_lex.specs.declared.fault.LexKind.{LexKind}
use Rattle.master_lex.specs.declared.fault.LexKind.TheVariants.{OpenQuote, BadEscape}

-- What a text is made of: octets of white space and of comments, line feeds, parentheses, tokens, in quotes or not, with
-- their octets as written, and a fault, behind which nothing is read.
pub data Piece : Type 0 where
  Skipped : (octet : ℕ) → Piece
  LineEnd : Piece
  Opening : Piece
  Closing : Piece
  Written : (quoted : Bool) (octets : List ℕ) → Piece
  Broken : (kind : LexKind) → Piece

-- three digits of a value up to 255
abbrev pub is_code : ℕ → ℕ → ℕ → Bool
is_code first second third =
    is_digit first && is_digit second && is_digit third && nat_le (three_digit_value first second third) 255

-- octets of a token in front of pieces, the first of which may be more of it
abbrev pub before : Bool → List ℕ → List Piece → List Piece
before false octets (Written false more ∷ rest) = Written false (octets ++ more) ∷ rest
before true octets (Written true more ∷ rest) = Written true (octets ++ more) ∷ rest
before quoted octets rest = Written quoted octets ∷ rest

-- a backslash that spells nothing; it is an octet of its token
abbrev pub bad_escape : Bool → List Piece
bad_escape quoted = Written quoted (92 ∷ []) ∷ Broken BadEscape ∷ []

abbrev mutual
  -- the pieces of a text, up to the first fault
  pub pieces : List ℕ → List Piece
  pieces [] = []
  pieces (octet ∷ text) =
      if octet == 32 || octet == 9 || octet == 13 then Skipped octet ∷ pieces text
      else (if octet == 10 then LineEnd ∷ pieces text
      else (if octet == 59 then Skipped octet ∷ comment text
      else (if octet == 40 then Opening ∷ pieces text
      else (if octet == 41 then Closing ∷ pieces text
      else (if octet == 34 then before true [] (in_quotes text)
      else (if octet == 92 then after_backslash false text
      else before false (octet ∷ []) (pieces text)))))))

  -- the pieces of a text in a comment: up to the line's end nothing counts
  pub comment : List ℕ → List Piece
  comment [] = []
  comment (octet ∷ text) = if octet == 10 then LineEnd ∷ pieces text else Skipped octet ∷ comment text

  -- the pieces of a text in a token in quotes, which goes on up to the next quote
  pub in_quotes : List ℕ → List Piece
  in_quotes [] = Broken OpenQuote ∷ []
  in_quotes (octet ∷ text) =
      if octet == 34 then Written true [] ∷ pieces text
      else (if octet == 10 then Broken OpenQuote ∷ []
      else (if octet == 92 then after_backslash true text
      else before true (octet ∷ []) (in_quotes text)))

  -- the pieces of a text behind a backslash: three digits of a value up to 255, or any octet but a digit and the line
  -- feed
  pub after_backslash : Bool → List ℕ → List Piece
  after_backslash quoted [] = bad_escape quoted
  after_backslash quoted (octet ∷ text) =
      if is_digit octet then after_digit quoted octet text
      else (if octet == 10 then bad_escape quoted
      else before quoted (92 ∷ octet ∷ []) (if quoted then in_quotes text else pieces text))

  -- the pieces of a text behind a backslash and a digit
  pub after_digit : Bool → ℕ → List ℕ → List Piece
  after_digit quoted first [] = bad_escape quoted
  after_digit quoted first (second ∷ text) = after_two_digits quoted first second text

  -- the pieces of a text behind a backslash and two octets, the first of which is a digit
  pub after_two_digits : Bool → ℕ → ℕ → List ℕ → List Piece
  after_two_digits quoted first second [] = bad_escape quoted
  after_two_digits quoted first second (third ∷ text) =
      if is_code first second third
      then before quoted (92 ∷ first ∷ second ∷ third ∷ []) (if quoted then in_quotes text else pieces text)
      else bad_escape quoted

-- the octets of a piece; a fault has none
abbrev pub written_octets : Piece → List ℕ
written_octets (Skipped octet) = octet ∷ []
written_octets LineEnd = 10 ∷ []
written_octets Opening = 40 ∷ []
written_octets Closing = 41 ∷ []
written_octets (Written false octets) = octets
written_octets (Written true octets) = 34 ∷ (octets ++ 34 ∷ [])
written_octets (Broken kind) = []

-- a fault
abbrev pub is_broken : Piece → Bool
is_broken (Broken kind) = true
is_broken _ = false

-- a fault comes first
abbrev pub begins_broken : List Piece → Bool
begins_broken (Broken kind ∷ rest) = true
begins_broken _ = false

-- the octets of pieces up to a fault, which leaves the token before it without its closing quote
abbrev pub written_front : List Piece → List ℕ
written_front [] = []
written_front (Written true octets ∷ rest) =
    34 ∷ (octets ++ (if begins_broken rest then [] else 34 ∷ written_front rest))
written_front (piece ∷ rest) = written_octets piece ++ written_front rest
