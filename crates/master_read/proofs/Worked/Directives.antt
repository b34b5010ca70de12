-- Directives.
use Rattle.std.specs.Prelude.{◌≡◌, refl, ℕ, [], ◌∷◌, false, true, Some, Ok, Err}
use Rattle.std.specs.Str.{is_utf8, chars}
use Rattle.dns_data.specs.Name.{Labels}
use Rattle.master_read.specs.Directives.{Includes, is_directive, directive_of, origin_directive, ttl_directive, include_directive}
use Rattle.master_read.specs.declared.context.Context.{Context}
use Rattle.master_read.specs.declared.fault.TextCause.TheVariants.{BadDirective, NotSupported}
use Rattle.master_read.proofs.Worked.Words.{bare, context_with, entry, in_quotes, includes_file, indented, name, sets, token, tokens}

-- a word with `$` at the front of its line
a_directive : is_directive (entry 1 (tokens "$TTL 60")) ≡ true
a_directive = refl

a_dollar_alone : is_directive (entry 1 (tokens "$")) ≡ true
a_dollar_alone = refl

-- not behind white space, in quotes or behind a backslash
behind_white_space : is_directive (indented 1 (tokens "$TTL 60")) ≡ false
behind_white_space = refl

within_quotes : is_directive (entry 1 (in_quotes "$TTL" ∷ token "60" ∷ [])) ≡ false
within_quotes = refl

behind_a_backslash : is_directive (entry 1 (tokens "\\$TTL 60")) ≡ false
behind_a_backslash = refl

a_record : is_directive (entry 1 (tokens "a$ 60")) ≡ false
a_record = refl

-- a context with something of each
abbrev before : Context
before = context_with (name "example") (Some 7) (Some 8) (Some (name "www.example"))

-- the context with something of each, under another origin
abbrev under : Labels → Context
under origin = context_with origin (Some 7) (Some 8) (Some (name "www.example"))

-- the context with something of each, with another TTL for records that state none
abbrev with_default : ℕ → Context
with_default ttl = context_with (name "example") (Some ttl) (Some 8) (Some (name "www.example"))

-- `$ORIGIN` and a name, relative to the origin so far (RFC 1035 section 5.1)
an_origin : directive_of before (tokens "$ORIGIN ISI.EDU.") ≡ sets (under (name "isi.edu"))
unfolding directive_of origin_directive
an_origin = refl

a_relative_origin : directive_of before (tokens "$Origin sub") ≡ sets (under (name "sub.example"))
unfolding directive_of origin_directive
a_relative_origin = refl

the_root : directive_of before (tokens "$origin .") ≡ sets (under [])
unfolding directive_of origin_directive
the_root = refl

the_same_origin : directive_of before (tokens "$ORIGIN @") ≡ sets before
unfolding directive_of origin_directive
the_same_origin = refl

a_quoted_origin : directive_of before (token "$ORIGIN" ∷ in_quotes "a b" ∷ []) ≡ sets (under (name "a b.example"))
unfolding directive_of origin_directive
a_quoted_origin = refl

no_origin : directive_of before (tokens "$ORIGIN") ≡ Err BadDirective
unfolding directive_of origin_directive
no_origin = refl

two_origins : directive_of before (tokens "$ORIGIN a. b.") ≡ Err BadDirective
unfolding directive_of origin_directive
two_origins = refl

no_name : directive_of before (tokens "$ORIGIN a..b") ≡ Err BadDirective
unfolding directive_of origin_directive
no_name = refl

-- `$TTL` and a time (RFC 2308 section 4)
a_ttl : directive_of before (tokens "$TTL 1d") ≡ sets (with_default 86400)
unfolding directive_of ttl_directive
a_ttl = refl

no_seconds : directive_of before (tokens "$ttl 0") ≡ sets (with_default 0)
unfolding directive_of ttl_directive
no_seconds = refl

a_quoted_ttl : directive_of before (token "$TTL" ∷ in_quotes "60" ∷ []) ≡ sets (with_default 60)
unfolding directive_of ttl_directive
a_quoted_ttl = refl

the_longest_ttl : directive_of before (tokens "$TTL 2147483647") ≡ sets (with_default 2147483647)
unfolding directive_of ttl_directive
the_longest_ttl = refl

too_long_a_ttl : directive_of before (tokens "$TTL 2147483648") ≡ Err BadDirective
unfolding directive_of ttl_directive
too_long_a_ttl = refl

an_escaped_digit : directive_of before (tokens "$TTL \\054") ≡ Err BadDirective
unfolding directive_of ttl_directive
an_escaped_digit = refl

no_ttl : directive_of before (tokens "$TTL") ≡ Err BadDirective
unfolding directive_of ttl_directive
no_ttl = refl

two_ttls : directive_of before (tokens "$TTL 60 60") ≡ Err BadDirective
unfolding directive_of ttl_directive
two_ttls = refl

-- `$INCLUDE` and a file, whose names stand below the origin so far or below a name that is relative to it
an_include : directive_of before (tokens "$INCLUDE <SUBSYS>ISI-MAILBOXES.TXT") ≡ includes_file "<SUBSYS>ISI-MAILBOXES.TXT" (name "example")
unfolding directive_of include_directive is_utf8 chars lib.Utf8.encode
an_include = refl

an_include_below : directive_of before (tokens "$Include /etc/zones/sub s") ≡ includes_file "/etc/zones/sub" (name "s.example")
unfolding directive_of include_directive is_utf8 chars lib.Utf8.encode
an_include_below = refl

an_include_of_escapes : directive_of before (token "$INCLUDE" ∷ in_quotes "a\\032\\098.zone" ∷ token "s.t." ∷ []) ≡ includes_file "a b.zone" (name "s.t")
unfolding directive_of include_directive is_utf8 chars lib.Utf8.encode
an_include_of_escapes = refl

an_include_in_utf8 : directive_of before (token "$INCLUDE" ∷ bare (195 ∷ 164 ∷ []) ∷ []) ≡ Ok (Includes (195 ∷ 164 ∷ []) (name "example"))
unfolding directive_of include_directive is_utf8 chars lib.Utf8.encode
an_include_in_utf8 = refl

an_include_of_nothing : directive_of before (tokens "$include") ≡ Err BadDirective
unfolding directive_of include_directive is_utf8 chars lib.Utf8.encode
an_include_of_nothing = refl

an_empty_file_name : directive_of before (token "$INCLUDE" ∷ in_quotes "" ∷ []) ≡ Err BadDirective
unfolding directive_of include_directive is_utf8 chars lib.Utf8.encode
an_empty_file_name = refl

no_utf8 : directive_of before (tokens "$INCLUDE \\195") ≡ Err BadDirective
unfolding directive_of include_directive is_utf8 chars lib.Utf8.encode
no_utf8 = refl

an_include_below_no_name : directive_of before (tokens "$INCLUDE sub a..b") ≡ Err BadDirective
unfolding directive_of include_directive is_utf8 chars lib.Utf8.encode
an_include_below_no_name = refl

an_include_of_two : directive_of before (tokens "$INCLUDE sub s t") ≡ Err BadDirective
unfolding directive_of include_directive is_utf8 chars lib.Utf8.encode
an_include_of_two = refl

-- a directive that isn't read, whatever stands behind it
a_row : directive_of before (tokens "$GENERATE 1-2 $ A 10.0.0.$") ≡ Err NotSupported
unfolding directive_of
a_row = refl

-- words of no directive
another_word : directive_of before (tokens "$DATE") ≡ Err BadDirective
unfolding directive_of
another_word = refl

a_longer_word : directive_of before (tokens "$TTLS 60") ≡ Err BadDirective
unfolding directive_of
a_longer_word = refl

an_escaped_letter : directive_of before (tokens "$\\TTL 60") ≡ Err BadDirective
unfolding directive_of
an_escaped_letter = refl

no_word : directive_of before (tokens "$") ≡ Err BadDirective
unfolding directive_of
no_word = refl
