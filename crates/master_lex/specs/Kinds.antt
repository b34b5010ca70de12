-- The kinds of fault in the text of a master file.
use Rattle.std.specs.Prelude.{ℕ, List, codes}
use Rattle.master_lex.specs.declared.fault.LexKind.{LexKind}
use Rattle.master_lex.specs.declared.fault.LexKind.TheVariants.{OpenParen, OpenQuote, StrayClose, BadEscape, TokenTooLong}

-- the code of a kind, the word that is printed for it
abbrev pub lex_code : LexKind → List ℕ
lex_code OpenParen = codes "open-paren"
lex_code OpenQuote = codes "open-quote"
lex_code StrayClose = codes "stray-close"
lex_code BadEscape = codes "bad-escape"
lex_code TokenTooLong = codes "token-too-long"

-- the number of a kind
abbrev pub lex_kind_number : LexKind → ℕ
lex_kind_number OpenParen = 1
lex_kind_number OpenQuote = 2
lex_kind_number StrayClose = 3
lex_kind_number BadEscape = 4
lex_kind_number TokenTooLong = 5
