-- Texts of lines whose words are plain octets, and the entries that they hold.
use Rattle.std.proofs.Common.{◌≡◌, ℕ, ◌+◌, ◌<◌, ◌≤◌, Bool, true, false, List, [], ◌∷◌, ◌++◌, map, length, None, flat_map, refl, sym, ap, ◌∙◌, arith, append_assoc, append-nil, nat_lt}
use Rattle.std.specs.List.{list_all, AllByRecursion}
use Rattle.std.proofs.lemmas.Bool.{and_parts}
use Rattle.std.proofs.lemmas.Bool.Decides.{nat_tests}
use Rattle.master_lex.specs.declared.entry.Entry.{Entry}
use Rattle.master_lex.specs.declared.entry.Token.{Token}
use Rattle.master_lex.specs.declared.octet.OctetKind.{OctetKind}
use Rattle.master_lex.specs.declared.octet.OctetKind.TheVariants.{Plain}
use Rattle.master_lex.specs.Octets.{kind, stands}
use Rattle.master_lex.specs.Pieces.{Piece, Skipped, Written, before, pieces}
use Rattle.master_lex.specs.Contents.{EntrySoFar, Contents, entry_start, with_token, behind, contents_from, text_entries, text_fault}
use Rattle.master_lex.proofs.Ahead.{by_kind, pieces_by_kind, before_before}

-- an octet that stands for itself in a word
abbrev pub is_plain : ℕ → Bool
is_plain octet = stands false (kind octet)

-- 1 to 131,072 plain octets
pub record IsWord (word : List ℕ) : Type 0 where
  pub plain : list_all is_plain word ≡ true
  pub some : 0 < length word
  pub short : length word ≤ 131072

-- words behind others of their line, and the line feed
abbrev pub words_behind : List (List ℕ) → List ℕ
words_behind [] = 10 ∷ []
words_behind (word ∷ words) = 32 ∷ (word ++ words_behind words)

-- a line of words with spaces between
abbrev pub line_text : List (List ℕ) → List ℕ
line_text [] = 10 ∷ []
line_text (word ∷ words) = word ++ words_behind words

-- a token without quotes
abbrev pub bare : List ℕ → Token
bare raw = record { raw = raw; quoted = false }

-- the entry of a line
abbrev pub line_entry : ℕ → List (List ℕ) → Entry
line_entry line words = record { line = line; blank_start = false; tokens = map bare words }

-- the entries of lines that are counted from this number on
abbrev pub line_entries : ℕ → List (List (List ℕ)) → List Entry
line_entries line [] = []
line_entries line (words ∷ lines) = line_entry line words ∷ line_entries (line + 1) lines

-- a line has a word, and its words are plain
pub record IsLine (words : List (List ℕ)) : Type 0 where
  pub some : 0 < length words
  pub plain : AllByRecursion IsWord words

-- ---- the pieces of a word

plain_piece : (octet : ℕ) (text : List ℕ) → is_plain octet ≡ true → pieces (octet ∷ text) ≡ before false (octet ∷ []) (pieces text)
plain_piece octet text plain = pieces_by_kind octet text ∙ by (kind octet) plain where
  by : (k : OctetKind) → stands false k ≡ true → by_kind k octet text ≡ before false (octet ∷ []) (pieces text)
  by Plain h = refl
  by _ h = absurd cc

plain_pieces : (octet : ℕ) (word text : List ℕ) → list_all is_plain (octet ∷ word) ≡ true → pieces ((octet ∷ word) ++ text) ≡ before false (octet ∷ word) (pieces text)
plain_pieces octet [] text plain = plain_piece octet text (and_parts (is_plain octet) true plain).0
plain_pieces octet (next ∷ word) text plain =
    let both = and_parts (is_plain octet) (list_all is_plain (next ∷ word)) plain in
    plain_piece octet ((next ∷ word) ++ text) both.0
    ∙ ap (before false (octet ∷ [])) (plain_pieces next word text both.1)
    ∙ before_before false (octet ∷ []) (next ∷ word) (pieces text)

-- a text with which no word goes on
abbrev Breaks : List ℕ → Type 0
Breaks text = (word : List ℕ) → before false word (pieces text) ≡ Written false word ∷ pieces text

word_piece : (word text : List ℕ) → IsWord word → Breaks text → pieces (word ++ text) ≡ Written false word ∷ pieces text
word_piece [] text is breaks = absurd (omega (arith, is.some))
word_piece (octet ∷ word) text is breaks = plain_pieces octet word text is.plain ∙ breaks (octet ∷ word)

behind_breaks : (words : List (List ℕ)) (text : List ℕ) → Breaks (words_behind words ++ text)
behind_breaks [] text word = refl
behind_breaks (next ∷ words) text word = refl

-- a word, and what stands behind it in its line
first_piece : (word : List ℕ) (words : List (List ℕ)) (text : List ℕ) → IsWord word
    → pieces ((word ++ words_behind words) ++ text) ≡ Written false word ∷ pieces (words_behind words ++ text)
first_piece word words text is =
    ap pieces (append_assoc word (words_behind words) text)
    ∙ word_piece word (words_behind words ++ text) is (behind_breaks words text)

-- ---- the entry of a line

not_long : (word : List ℕ) → length word ≤ 131072 → nat_lt 131072 (length word) ≡ false
not_long word short = grind (arith, nat_tests)

token_more : (place : EntrySoFar) (word : List ℕ) (rest : List Piece) → length word ≤ 131072
    → contents_from place (Written false word ∷ rest) ≡ contents_from (with_token place false word) rest
token_more place word rest short = rw (not_long word short) refl

-- an entry that has come so far in its line
abbrev under_way : ℕ → List Token → EntrySoFar
under_way line tokens = record { line = line; blank_start = false; depth = 0; opened = 0; first = line; tokens = tokens }

-- the entry of these tokens
abbrev entry_with : ℕ → List Token → Entry
entry_with line tokens = record { line = line; blank_start = false; tokens = tokens }

-- what a text holds from the front of a line on
abbrev lines_from : ℕ → List ℕ → Contents
lines_from line text = contents_from (entry_start line (pieces text)) (pieces text)

rest_of_line : (line : ℕ) (first : Token) (tokens : List Token) (words : List (List ℕ)) (text : List ℕ) → AllByRecursion IsWord words
    → contents_from (under_way line (first ∷ tokens)) (pieces (words_behind words ++ text))
    ≡ behind (entry_with line (first ∷ (tokens ++ map bare words)) ∷ []) (lines_from (line + 1) text)
rest_of_line line first tokens [] text are =
    ap (λ (more : List Token). behind (entry_with line (first ∷ more) ∷ []) (lines_from (line + 1) text)) (sym (append-nil tokens))
rest_of_line line first tokens (word ∷ words) text are =
    ap (λ (rest : List Piece). contents_from (under_way line (first ∷ tokens)) (Skipped 32 ∷ rest)) (first_piece word words text are.0)
    ∙ token_more (under_way line (first ∷ tokens)) word (pieces (words_behind words ++ text)) are.0.short
    ∙ rest_of_line line first (tokens ++ bare word ∷ []) words text are.1
    ∙ ap (λ (more : List Token). behind (entry_with line (first ∷ more) ∷ []) (lines_from (line + 1) text)) (append_assoc tokens (bare word ∷ []) (map bare words))

line_read : (line : ℕ) (word : List ℕ) (words : List (List ℕ)) (text : List ℕ) → IsWord word → AllByRecursion IsWord words
    → lines_from line (line_text (word ∷ words) ++ text) ≡ behind (line_entry line (word ∷ words) ∷ []) (lines_from (line + 1) text)
line_read line word words text is are =
    let rest = pieces (words_behind words ++ text) in
    ap (λ (all : List Piece). contents_from (entry_start line all) all) (first_piece word words text is)
    ∙ token_more (entry_start line (Written false word ∷ rest)) word rest is.short
    ∙ rest_of_line line (bare word) [] words text are

-- ---- the entries of a text

lines_read : (line : ℕ) (lines : List (List (List ℕ))) → AllByRecursion IsLine lines
    → lines_from line (flat_map line_text lines) ≡ record { whole = line_entries line lines; last = []; fault = None }
lines_read line [] are = refl
lines_read line ([] ∷ lines) are = absurd (omega (arith, are.0.some))
lines_read line ((word ∷ words) ∷ lines) are =
    line_read line word words (flat_map line_text lines) are.0.plain.0 are.0.plain.1
    ∙ ap (behind (line_entry line (word ∷ words) ∷ [])) (lines_read (line + 1) lines are.1)

-- lines of plain words are the entries of these words
pub entries_of_lines : (lines : List (List (List ℕ))) → AllByRecursion IsLine lines → text_entries (flat_map line_text lines) ≡ line_entries 1 lines
entries_of_lines lines are = ap (λ (held : Contents). held.whole ++ held.last) (lines_read 1 lines are) ∙ append-nil (line_entries 1 lines)

-- the text of lines has no fault
pub no_fault_of_lines : (lines : List (List (List ℕ))) → AllByRecursion IsLine lines → text_fault (flat_map line_text lines) ≡ None
no_fault_of_lines lines are = ap (λ (held : Contents). held.fault) (lines_read 1 lines are)
