-- Plain lines, which are passed over at once.
use Rattle.std.specs.Prelude.{◌≡◌, ◌⊎◌, ℕ, ◌+◌, ◌<◌, ◌≤◌, List, [], ◌∷◌, length, get_or, true, false, not, if◌then◌else◌}
use Rattle.std.specs.List.{prefix_len}
use Rattle.master_lex.specs.declared.entry.Entry.{Entry}
use Rattle.master_lex.specs.declared.entry.Token.{Token}
use Rattle.master_lex.specs.declared.line.PlainLine.{PlainLine}
use Rattle.master_lex.specs.declared.line.LinePart.{LinePart}
use Rattle.master_lex.specs.declared.line.LinePart.TheVariants as parts
use Rattle.master_lex.specs.declared.position.Mode.TheVariants.{Start, Between}
use Rattle.master_lex.specs.declared.scanner.TheConstants.{MOST}
use Rattle.master_lex.specs.Lists.{is_empty}
use Rattle.master_lex.specs.Octets.{kind, is_feed, ends_word, stands}
use Rattle.master_lex.specs.Plain.{PassedFirst}
use Rattle.master_lex.specs.States.{LexState, start_of, entry_ended}

-- the entry of a line with these tokens, or none without a token
abbrev pub line_entries : PlainLine → List Token → List Entry
line_entries line tokens = if is_empty tokens then [] else record { line = line.line; blank_start = line.blank_start; tokens = tokens } ∷ []

-- a token without quotes stands whole in front, of so many octets: white space or the line's end stands behind it
pub record IsWord (octets : List ℕ) (count : ℕ) : Type 0 where
  pub some : 0 < count
  pub plain : count ≤ prefix_len (λ octet. stands false (kind octet)) octets
  pub short : count ≤ MOST
  pub within : count < length octets
  pub behind : ends_word (kind (get_or octets count 0)) ≡ true

-- a token in quotes stands whole in front, of so many octets with its quotes
abbrev pub IsQuoted : List ℕ → ℕ → Type 0
IsQuoted [] count = ⊥
IsQuoted (octet ∷ octets) count =
    (octet ≡ 34) × ((within : ℕ) × ((count ≡ within + 2) × (within ≤ prefix_len (λ octet. stands true (kind octet)) octets) × (within ≤ MOST)
    × (within < length octets) × (get_or octets within 0 ≡ 34)))

-- a line feed or a comment stands in front, and the line ends behind so many octets
abbrev pub IsLineEnd : List ℕ → ℕ → Type 0
IsLineEnd [] count = ⊥
IsLineEnd (octet ∷ octets) count =
    ((octet ≡ 10) × (count ≡ 1))
    ⊎ ((octet ≡ 59) × (prefix_len (λ octet. not (is_feed (kind octet))) octets < length octets) × (count ≡ prefix_len (λ octet. not (is_feed (kind octet))) octets + 2))

-- the state within a line whose entry has these tokens so far, outside parentheses
abbrev pub in_line : LexState → List Token → LexState
in_line s tokens = record s {
  tokens = tokens;
  raw = [];
  position = record s.position { depth = 0; first = (if is_empty tokens then s.position.first else s.position.line); mode = Between };
}

-- what a part of a line in front makes of the tokens before it: those behind it, and whether the line has ended
abbrev pub HasPassedPart : LexState → List Token → List Token → List ℕ → LinePart → Type 0
HasPassedPart s before after octets (parts.Token count) = PassedFirst (in_line s before) (in_line s after) octets count
HasPassedPart s before after octets (parts.End count) = PassedFirst (in_line s before) (entry_ended (in_line s after)) octets count
HasPassedPart s before after octets parts.Other = Unit {0}

-- a part has an octet, and no more than there are
abbrev pub IsPartWithin : ℕ → LinePart → Type 0
IsPartWithin most (parts.Token count) = (0 < count) × (count ≤ most)
IsPartWithin most (parts.End count) = (0 < count) × (count ≤ most)
IsPartWithin most parts.Other = Unit {0}

-- nothing is held, and an entry may begin
pub record HoldsNothing (s : LexState) : Type 0 where
  pub ready : s.ready ≡ []
  pub tokens : s.tokens ≡ []
  pub raw : s.raw ≡ []
  pub depth : s.position.depth ≡ 0
  pub mode : s.position.mode ≡ Start

-- the state at the start of a line, with these entries
abbrev pub at_line : ℕ → List Entry → LexState
at_line line ready = record { ready = ready; tokens = []; raw = []; position = start_of line }

-- a line was passed, and its entry was taken
pub record HasPassedLine (old new : LexState) (tokens : List Token) (octets : List ℕ) (line : PlainLine) : Type 0 where
  pub some : 0 < line.octets
  pub ready : old.ready ≡ []
  pub new_is : new ≡ at_line (old.position.line + 1) []
  pub passed : PassedFirst old (at_line (old.position.line + 1) (line_entries line tokens)) octets line.octets
