-- Worked values of the definitions of a text's entries. Each is a theorem: a false one stops the check.
use Rattle.std.specs.Prelude.{◌≡◌, refl, ℕ, Bool, true, false, List, [], ◌∷◌, length, codes, Option, Some, None}
use Rattle.master_lex.specs.declared.entry.Entry.{Entry}
use Rattle.master_lex.specs.declared.entry.Token.{Token}
use Rattle.master_lex.specs.declared.fault.LexFault.{LexFault}
use Rattle.master_lex.specs.declared.fault.LexKind.{LexKind}
use Rattle.master_lex.specs.declared.fault.LexKind.TheVariants.{OpenParen, OpenQuote, StrayClose, BadEscape, TokenTooLong}
use Rattle.master_lex.specs.Pieces.{Written, before, pieces}
use Rattle.master_lex.specs.Contents.{EntrySoFar, with_token, fails, contents_from, text_entries, text_fault}
use Rattle.std.proofs.lemmas.List.{length-append}

abbrev word : List ℕ → Token
word octets = record { raw = octets; quoted = false }

abbrev quoted : List ℕ → Token
quoted octets = record { raw = octets; quoted = true }

abbrev entry : ℕ → Bool → List Token → Entry
entry line blank_start tokens = record { line = line; blank_start = blank_start; tokens = tokens }

abbrev fault : ℕ → LexKind → Option LexFault
fault line kind = Some (record { line = line; kind = kind })

-- the text has these entries and this fault
abbrev Holds : List ℕ → List Entry → Option LexFault → Type 0
Holds text entries fault = (text_entries text ≡ entries) × (text_fault text ≡ fault)

no_text : Holds ([]) [] None
no_text = (refl, refl)

only_white_space_and_comments : Holds (codes "\n\n; c\n  \t\n\r\n;") [] None
only_white_space_and_comments = (refl, refl)

parentheses_without_a_token : Holds (codes "( )\n(\n)\n") [] None
parentheses_without_a_token = (refl, refl)

no_last_line_feed : Holds (codes "a b") (entry 1 false (word (codes "a") ∷ word (codes "b") ∷ []) ∷ []) None
no_last_line_feed = (refl, refl)

no_last_line_feed_behind_a_comment : Holds (codes "a b;c") (entry 1 false (word (codes "a") ∷ word (codes "b") ∷ []) ∷ []) None
no_last_line_feed_behind_a_comment = (refl, refl)

no_last_line_feed_behind_a_quote : Holds (codes "\"a\"") (entry 1 false (quoted (codes "a") ∷ []) ∷ []) None
no_last_line_feed_behind_a_quote = (refl, refl)

an_entry_over_lines_with_comments : Holds (codes "a (\n b ; c )\n c\n) d\ne") (entry 1 false (word (codes "a") ∷ word (codes "b") ∷ word (codes "c") ∷ word (codes "d") ∷ []) ∷ entry 5 false (word (codes "e") ∷ []) ∷ []) None
an_entry_over_lines_with_comments = (refl, refl)

nested_parentheses : Holds (codes "a ((b\n)\nc) d\n") (entry 1 false (word (codes "a") ∷ word (codes "b") ∷ word (codes "c") ∷ word (codes "d") ∷ []) ∷ []) None
nested_parentheses = (refl, refl)

blank_before_a_parenthesis : Holds (codes " ( a\n)\n") (entry 1 true (word (codes "a") ∷ []) ∷ []) None
blank_before_a_parenthesis = (refl, refl)

a_token_behind_the_parenthesis_s_line : Holds (codes "(\n a)\n") (entry 2 false (word (codes "a") ∷ []) ∷ []) None
a_token_behind_the_parenthesis_s_line = (refl, refl)

the_same_behind_a_tab : Holds (codes "\t(\na)\n") (entry 2 true (word (codes "a") ∷ []) ∷ []) None
the_same_behind_a_tab = (refl, refl)

a_blank_line_in_front : Holds (codes "\t;x\n\ta\nb\n") (entry 2 true (word (codes "a") ∷ []) ∷ entry 3 false (word (codes "b") ∷ []) ∷ []) None
a_blank_line_in_front = (refl, refl)

a_carriage_return_is_no_blank_start : Holds (codes "\ra\r\nb\r\n") (entry 1 false (word (codes "a") ∷ []) ∷ entry 2 false (word (codes "b") ∷ []) ∷ []) None
a_carriage_return_is_no_blank_start = (refl, refl)

tokens_without_space_between : Holds (codes "a\"b c\"d\"\"(e)f;g\n") (entry 1 false (word (codes "a") ∷ quoted (codes "b c") ∷ word (codes "d") ∷ quoted [] ∷ word (codes "e") ∷ word (codes "f") ∷ []) ∷ []) None
tokens_without_space_between = (refl, refl)

quotes_keep_all : Holds (codes "\"a;b(c)\t\" x\n") (entry 1 false (quoted (codes "a;b(c)\t") ∷ word (codes "x") ∷ []) ∷ []) None
quotes_keep_all = (refl, refl)

escapes_stay_as_written : Holds (codes "a\\\"b \"c\\\"d\" e\\ f \\;\\(\\)\\\\ \\000\\255 \"\\;\\034\"\n") (entry 1 false (word (codes "a\\\"b") ∷ quoted (codes "c\\\"d") ∷ word (codes "e\\ f") ∷ word (codes "\\;\\(\\)\\\\") ∷ word (codes "\\000\\255") ∷ quoted (codes "\\;\\034") ∷ []) ∷ []) None
escapes_stay_as_written = (refl, refl)

an_escaped_carriage_return : Holds (codes "a\\\rb\n") (entry 1 false (word (codes "a\\\rb") ∷ []) ∷ []) None
an_escaped_carriage_return = (refl, refl)

comments_have_no_escapes_quotes_or_parentheses : Holds (codes "; \\\na ; \" ( )\n") (entry 2 false (word (codes "a") ∷ []) ∷ []) None
comments_have_no_escapes_quotes_or_parentheses = (refl, refl)

a_parenthesis_in_a_comment : Holds (codes "a ( ; )\n b )\n") (entry 1 false (word (codes "a") ∷ word (codes "b") ∷ []) ∷ []) None
a_parenthesis_in_a_comment = (refl, refl)

-- ---- faults

an_open_parenthesis_over_lines : Holds (codes "a ( b\n; )\nc\n") [] (fault 1 OpenParen)
an_open_parenthesis_over_lines = (refl, refl)

the_outermost_open_one : Holds (codes "x\n(\n(\n)\n") (entry 1 false (word (codes "x") ∷ []) ∷ []) (fault 2 OpenParen)
the_outermost_open_one = (refl, refl)

the_outermost_that_is_open_in_the_end : Holds (codes "(\n)(\n") [] (fault 2 OpenParen)
the_outermost_that_is_open_in_the_end = (refl, refl)

an_open_quote_at_the_end : Holds (codes "a \"b") [] (fault 1 OpenQuote)
an_open_quote_at_the_end = (refl, refl)

an_open_quote_at_a_line_feed : Holds (codes "a\n\"b\nc\"\n") (entry 1 false (word (codes "a") ∷ []) ∷ []) (fault 2 OpenQuote)
an_open_quote_at_a_line_feed = (refl, refl)

an_open_quote_before_an_open_parenthesis : Holds (codes "(\n\"a") [] (fault 2 OpenQuote)
an_open_quote_before_an_open_parenthesis = (refl, refl)

a_stray_close : Holds (codes "a\n ) b\nc\n") (entry 1 false (word (codes "a") ∷ []) ∷ []) (fault 2 StrayClose)
a_stray_close = (refl, refl)

one_close_too_many : Holds (codes "a (b))\n") [] (fault 1 StrayClose)
one_close_too_many = (refl, refl)

a_bad_escape_at_the_end : Holds (codes "a\\") [] (fault 1 BadEscape)
a_bad_escape_at_the_end = (refl, refl)

a_bad_escape_at_a_line_feed : Holds (codes "a\\\nb\n") [] (fault 1 BadEscape)
a_bad_escape_at_a_line_feed = (refl, refl)

a_bad_escape_in_open_quotes : Holds (codes "\"a\\\nb\"\n") [] (fault 1 BadEscape)
a_bad_escape_in_open_quotes = (refl, refl)

a_bad_escape_in_parentheses : Holds (codes "(\na \\1x)\n") [] (fault 2 BadEscape)
a_bad_escape_in_parentheses = (refl, refl)

a_lone_digit : Holds (codes "\\9 a\n") [] (fault 1 BadEscape)
a_lone_digit = (refl, refl)

two_digits : Holds (codes "\\12;\n") [] (fault 1 BadEscape)
two_digits = (refl, refl)

two_digits_at_the_end : Holds (codes "\\25") [] (fault 1 BadEscape)
two_digits_at_the_end = (refl, refl)

a_value_of_256 : Holds (codes "a\\256\n") [] (fault 1 BadEscape)
a_value_of_256 = (refl, refl)

a_value_of_300_in_quotes : Holds (codes "\"\\300\"\n") [] (fault 1 BadEscape)
a_value_of_300_in_quotes = (refl, refl)

a_stray_close_before_a_bad_escape : Holds (codes "a ) \\\n") [] (fault 1 StrayClose)
a_stray_close_before_a_bad_escape = (refl, refl)

a_bad_escape_before_a_stray_close : Holds (codes "a \\1) )\n") [] (fault 1 BadEscape)
a_bad_escape_before_a_stray_close = (refl, refl)

a_stray_close_before_an_open_quote : Holds (codes "a\n)\n\"\n") (entry 1 false (word (codes "a") ∷ []) ∷ []) (fault 2 StrayClose)
a_stray_close_before_an_open_quote = (refl, refl)

-- ---- the length of a token

-- a token of 131,072 octets, which is as long as one may be, and one of an octet more
longest : (place : EntrySoFar) (quoted : Bool) (octets : List ℕ) → length octets ≡ 131072 → contents_from place (Written quoted octets ∷ []) ≡ contents_from (with_token place quoted octets) []
longest place quoted octets long = rw long refl

too_long : (place : EntrySoFar) (quoted : Bool) (octets : List ℕ) → length octets ≡ 131073 → contents_from place (Written quoted octets ∷ []) ≡ fails place.line TokenTooLong
too_long place quoted octets long = rw long refl

-- a backslash that spells nothing counts as an octet: as the last that a token may have it is a bad escape, and one later
-- the token is too long
last_backslash : (place : EntrySoFar) (octets : List ℕ) → length octets ≡ 131071 → contents_from place (before false octets (pieces (codes "\\"))) ≡ fails place.line BadEscape
last_backslash place octets long = rw (length-append octets (92 ∷ []), long) refl

later_backslash : (place : EntrySoFar) (octets : List ℕ) → length octets ≡ 131072 → contents_from place (before false octets (pieces (codes "\\"))) ≡ fails place.line TokenTooLong
later_backslash place octets long = rw (length-append octets (92 ∷ []), long) refl
