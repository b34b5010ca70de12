-- What the code holds of a text after its octets so far, and how one octet more changes it. Only the code's own
-- loops need this: what a text's entries are stands in `Pieces` and `Contents`.
use Rattle.std.specs.Prelude.{◌≡◌, ◌⊎◌, ℕ, ◌+◌, ◌-◌, ◌≤◌, List, [], ◌∷◌, ◌++◌, length, Bool, true, false, ◌==◌, nat_lt, nat_le, if◌then◌else◌, Option, Some, None}
use Rattle.dns_data.specs.Octet.{is_digit}
use Rattle.master_lex.specs.declared.entry.Entry.{Entry}
use Rattle.master_lex.specs.declared.entry.Token.{Token}
use Rattle.master_lex.specs.declared.fault.LexFault.{LexFault}
use Rattle.master_lex.specs.declared.fault.LexKind.{LexKind}
use Rattle.master_lex.specs.declared.fault.LexKind.TheVariants.{OpenParen, OpenQuote, StrayClose, BadEscape, TokenTooLong}
use Rattle.master_lex.specs.declared.octet.OctetKind.{OctetKind}
use Rattle.master_lex.specs.declared.octet.OctetKind.TheVariants.{Plain, Blank, LineFeed, Semicolon, Open, Close, Quote, Backslash}
use Rattle.master_lex.specs.declared.position.Position.{Position}
use Rattle.master_lex.specs.declared.position.Mode.{Mode}
use Rattle.master_lex.specs.declared.position.Mode.TheVariants.{Start, Between, Comment, InToken, Faulty}
use Rattle.master_lex.specs.declared.position.Escape.{Escape}
use Rattle.master_lex.specs.declared.position.Escape.TheVariants.{Outside, Begun, One, Two}
use Rattle.master_lex.specs.declared.scanner.Scanner.{Scanner}
use Rattle.master_lex.specs.declared.scanner.TheConstants.{MOST}
use Rattle.master_lex.specs.Lists.{is_empty}
use Rattle.master_lex.specs.Octets.{kind, is_space}
use Rattle.master_lex.specs.Pieces.{is_code, Piece, pieces, comment, in_quotes, after_backslash, after_digit, after_two_digits, before}
use Rattle.master_lex.specs.Contents.{EntrySoFar, Contents, begins_blank, behind, contents_from}

-- the whole entries that weren't taken, and the entry under way: its whole tokens, the octets of the
-- token under way, and how far it has come
pub record LexState : Type 0 where
  pub ready : List Entry
  pub tokens : List Token
  pub raw : List ℕ
  pub position : Position

-- what the fields hold
abbrev pub state_of : Scanner → LexState
state_of scanner = record { ready = scanner.ready.items; tokens = scanner.tokens.items; raw = scanner.raw; position = scanner.position }

-- nothing of an entry, in this line
abbrev pub start_of : ℕ → Position
start_of line = record { line = line; blank_start = false; depth = 0; opened = 0; first = 0; mode = Start }

-- nothing of a text
abbrev pub empty : LexState
empty = record { ready = []; tokens = []; raw = []; position = start_of 1 }

-- a state with something else under way
abbrev pub with_mode : LexState → Mode → LexState
with_mode s mode = record s { position = record s.position { mode = mode } }

-- a fault in the line under way
abbrev pub failed : LexState → LexKind → LexState
failed s kind = with_mode s (Faulty (record { line = s.position.line; kind = kind }))

-- the state with these octets more in the token under way, however long it is
abbrev pub pushed : LexState → List ℕ → Bool → LexState
pushed s octets quoted = record s { raw = s.raw ++ octets; position = record s.position { mode = InToken quoted Outside } }

-- the state with these octets more in the token under way, or the fault if it gets too long
abbrev pub kept : LexState → List ℕ → Bool → LexState
kept s octets quoted = if nat_le (length octets) (MOST - length s.raw) then pushed s octets quoted else failed s TokenTooLong

-- a `\`, which has to be within the length of a token
abbrev pub escape_begun : LexState → Bool → LexState
escape_begun s quoted = if nat_lt (length s.raw) MOST then with_mode s (InToken quoted Begun) else failed s TokenTooLong

-- the token under way is whole
abbrev pub token_ended : LexState → Bool → LexState
token_ended s quoted = record s {
  tokens = s.tokens ++ record { raw = s.raw; quoted = quoted } ∷ [];
  raw = [];
  position = record s.position { mode = Between; first = (if is_empty s.tokens then s.position.line else s.position.first) };
}

-- the entry that the tokens make
abbrev pub entry_of : LexState → Entry
entry_of s = record { line = s.position.first; blank_start = s.position.blank_start; tokens = s.tokens }

-- the entry under way is whole; without a token it is none
abbrev pub entry_ended : LexState → LexState
entry_ended s = record s {
  ready = (if is_empty s.tokens then s.ready else s.ready ++ entry_of s ∷ []);
  tokens = [];
  position = start_of (s.position.line + 1);
}

-- a line feed ends the entry outside parentheses, and is white space inside
abbrev pub line_ended : LexState → LexState
line_ended s =
    if s.position.depth == 0
    then entry_ended s
    else record s { position = record s.position { line = s.position.line + 1; mode = Between } }

-- a parenthesis is opened
abbrev pub opened : LexState → LexState
opened s = record s {
  position = record s.position {
    depth = s.position.depth + 1;
    opened = (if s.position.depth == 0 then s.position.line else s.position.opened);
    mode = Between;
  };
}

-- a parenthesis is closed
abbrev pub closed : LexState → LexState
closed s =
    if s.position.depth == 0
    then failed s StrayClose
    else record s { position = record s.position { depth = s.position.depth - 1; mode = Between } }

-- an octet outside comments and tokens
abbrev pub between_by : OctetKind → LexState → ℕ → LexState
between_by Plain s octet = kept s (octet ∷ []) false
between_by Blank s octet = with_mode s Between
between_by LineFeed s octet = line_ended s
between_by Semicolon s octet = with_mode s Comment
between_by Open s octet = opened s
between_by Close s octet = closed s
between_by Quote s octet = with_mode s (InToken true Outside)
between_by Backslash s octet = escape_begun s false

-- an octet in a token without quotes: all but plain octets and escapes end it
abbrev pub in_word_by : OctetKind → LexState → ℕ → LexState
in_word_by Plain s octet = kept s (octet ∷ []) false
in_word_by Backslash s octet = escape_begun s false
in_word_by kind s octet = between_by kind (token_ended s false) octet

-- an octet in a token in quotes: all but the quote, the line feed and escapes are plain
abbrev pub in_quotes_by : OctetKind → LexState → ℕ → LexState
in_quotes_by Quote s octet = token_ended s true
in_quotes_by LineFeed s octet = failed s OpenQuote
in_quotes_by Backslash s octet = escape_begun s true
in_quotes_by kind s octet = kept s (octet ∷ []) true

-- the octet behind a `\`: a digit has to be one with which the three of a value up to 255 can begin
abbrev pub behind_backslash : LexState → ℕ → Bool → LexState
behind_backslash s octet quoted =
    if is_digit octet then (if is_code octet 48 48 then with_mode s (InToken quoted (One octet)) else failed s BadEscape)
    else (if octet == 10 then failed s BadEscape else kept s (92 ∷ octet ∷ []) quoted)

-- the second of three digits
abbrev pub behind_digit : ℕ → LexState → ℕ → Bool → LexState
behind_digit first s octet quoted = if is_code first octet 48 then with_mode s (InToken quoted (Two first octet)) else failed s BadEscape

-- the third of three digits
abbrev pub behind_digits : ℕ → ℕ → LexState → ℕ → Bool → LexState
behind_digits first second s octet quoted =
    if is_code first second octet then kept s (92 ∷ first ∷ second ∷ octet ∷ []) quoted else failed s BadEscape

-- an octet in a token
abbrev pub in_token : Bool → Escape → LexState → ℕ → LexState
in_token false Outside s octet = in_word_by (kind octet) s octet
in_token true Outside s octet = in_quotes_by (kind octet) s octet
in_token quoted Begun s octet = behind_backslash s octet quoted
in_token quoted (One first) s octet = behind_digit first s octet quoted
in_token quoted (Two first second) s octet = behind_digits first second s octet quoted

-- an octet in a comment
abbrev pub in_comment_by : OctetKind → LexState → LexState
in_comment_by LineFeed s = line_ended s
in_comment_by kind s = s

-- what one octet more makes of what is held, by what is under way
abbrev pub passed_by : Mode → LexState → ℕ → LexState
passed_by Start s octet = between_by (kind octet) (record s { position = record s.position { blank_start = is_space octet } }) octet
passed_by Between s octet = between_by (kind octet) s octet
passed_by Comment s octet = in_comment_by (kind octet) s
passed_by (InToken quoted escape) s octet = in_token quoted escape s octet
passed_by (Faulty fault) s octet = s

-- what one octet more makes of what is held
unfoldable pub passed : LexState → ℕ → LexState
passed s octet = passed_by s.position.mode s octet

-- what the octets make of what is held, one after another
abbrev pub run : LexState → List ℕ → LexState
run s [] = s
run s (octet ∷ octets) = run (passed s octet) octets

-- the digits of an escape so far can be those of a value up to 255
abbrev pub CanGoOn : Escape → Type 0
CanGoOn Outside = Unit {0}
CanGoOn Begun = Unit {0}
CanGoOn (One first) = is_code first 48 48 ≡ true
CanGoOn (Two first second) = is_code first second 48 ≡ true

-- how many octets of a token an escape under way has for sure
abbrev pub begun : Escape → ℕ
begun Outside = 0
begun Begun = 1
begun (One first) = 1
begun (Two first second) = 1

-- what is held fits what is under way: outside tokens no octet of a token is held
abbrev pub Fits : Mode → LexState → Type 0
Fits Start s = (s.raw ≡ []) × (s.position.blank_start ≡ false)
Fits Between s = s.raw ≡ []
Fits Comment s = s.raw ≡ []
Fits (InToken quoted escape) s = CanGoOn escape × (length s.raw + begun escape ≤ MOST)
Fits (Faulty fault) s = Unit {0}

-- what is held fits what is under way
abbrev pub IsTidy : LexState → Type 0
IsTidy s = Fits s.position.mode s

-- the place where the entry under way has come to
abbrev pub entry_so_far : LexState → EntrySoFar
entry_so_far s = record {
  line = s.position.line;
  blank_start = s.position.blank_start;
  depth = s.position.depth;
  opened = s.position.opened;
  first = s.position.first;
  tokens = s.tokens;
}

-- the pieces of a text that begins in a token, whose escape may have begun
abbrev pub rest_of_token : Bool → Escape → List ℕ → List Piece
rest_of_token quoted Outside text = if quoted then in_quotes text else pieces text
rest_of_token quoted Begun text = after_backslash quoted text
rest_of_token quoted (One first) text = after_digit quoted first text
rest_of_token quoted (Two first second) text = after_two_digits quoted first second text

-- what a text holds that goes on from here
abbrev pub ahead_by : Mode → LexState → List ℕ → Contents
ahead_by Start s text = contents_from (record (entry_so_far s) { blank_start = begins_blank (pieces text) }) (pieces text)
ahead_by Between s text = contents_from (entry_so_far s) (pieces text)
ahead_by Comment s text = contents_from (entry_so_far s) (comment text)
ahead_by (InToken quoted escape) s text = contents_from (entry_so_far s) (before quoted s.raw (rest_of_token quoted escape text))
ahead_by (Faulty fault) s text = record { whole = []; last = []; fault = Some fault }

-- the whole entries that weren't taken, and behind them what a text holds that goes on from here
abbrev pub ahead : LexState → List ℕ → Contents
ahead s text = behind s.ready (ahead_by s.position.mode s text)

-- parentheses are open
abbrev pub paren_fault : Position → Option LexFault
paren_fault position = if position.depth == 0 then None else Some (record { line = position.opened; kind = OpenParen })

-- a token is under way: quotes are open, or an escape isn't whole, or else parentheses are open
abbrev pub token_fault : Escape → Bool → Position → Option LexFault
token_fault Outside false position = paren_fault position
token_fault Outside true position = Some (record { line = position.line; kind = OpenQuote })
token_fault _ quoted position = Some (record { line = position.line; kind = BadEscape })

-- the fault in which the text ends, by what is under way
abbrev pub fault_at_end : Mode → Position → Option LexFault
fault_at_end (InToken quoted escape) position = token_fault escape quoted position
fault_at_end (Faulty fault) position = Some fault
fault_at_end _ position = paren_fault position

-- the fault in which the text ends, if it ends here
abbrev pub last_fault : Position → Option LexFault
last_fault position = fault_at_end position.mode position

-- the token under way ends with the text
abbrev pub whole_by : Mode → LexState → LexState
whole_by (InToken quoted escape) s = token_ended s quoted
whole_by _ s = s

-- the tokens of the entry that ends with the text
abbrev pub whole : LexState → LexState
whole s = whole_by s.position.mode s

-- the entry that the tokens make, or none without a token
abbrev pub made : LexState → List Entry
made s = if is_empty s.tokens then [] else entry_of s ∷ []

-- the entries, where there is no fault
abbrev pub without_fault : Option LexFault → List Entry → List Entry
without_fault None entries = entries
without_fault (Some fault) entries = []

-- the entry that ends with the text, if the text ends here
abbrev pub last_entry : LexState → List Entry
last_entry s = without_fault (last_fault s.position) (made (whole s))

-- the stores hold the same
pub record SameStores (old new : LexState) : Type 0 where
  pub ready : new.ready ≡ old.ready
  pub tokens : new.tokens ≡ old.tokens
  pub raw : new.raw ≡ old.raw

-- the octet wasn't passed: the stores hold the same, or at most the token in front of it was ended
abbrev pub IsHalfway : LexState → LexState → Type 0
IsHalfway old new = SameStores old new ⊎ SameStores (token_ended old false) new
