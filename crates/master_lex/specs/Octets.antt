-- What single octets mean to the code's loops.
use Rattle.std.specs.Prelude.{ℕ, Bool, true, false, ◌||◌, ◌==◌, if◌then◌else◌}
use Rattle.master_lex.specs.declared.octet.OctetKind.{OctetKind}
use Rattle.master_lex.specs.declared.octet.OctetKind.TheVariants.{Plain, Blank, LineFeed, Semicolon, Open, Close, Quote, Backslash}

-- what an octet means outside quotes and escapes: space, tab and carriage return are white space
unfoldable pub kind : ℕ → OctetKind
kind c =
    if c == 32 || c == 9 || c == 13 then Blank
    else if c == 10 then LineFeed
    else if c == 59 then Semicolon
    else if c == 40 then Open
    else if c == 41 then Close
    else if c == 34 then Quote
    else if c == 92 then Backslash
    else Plain

-- a space or a tab
abbrev pub is_space : ℕ → Bool
is_space c = c == 32 || c == 9

-- white space outside quotes and escapes
abbrev pub is_blank : OctetKind → Bool
is_blank Blank = true
is_blank _ = false

-- a line feed
abbrev pub is_feed : OctetKind → Bool
is_feed LineFeed = true
is_feed _ = false

-- white space or a line feed, which end a token without quotes
abbrev pub ends_word : OctetKind → Bool
ends_word Blank = true
ends_word LineFeed = true
ends_word _ = false

-- whether an octet of this kind stands for itself in a token, in quotes or outside
abbrev pub stands : Bool → OctetKind → Bool
stands false Plain = true
stands false _ = false
stands true Quote = false
stands true LineFeed = false
stands true Backslash = false
stands true _ = true
