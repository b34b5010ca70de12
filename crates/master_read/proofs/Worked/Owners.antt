-- Owners of records.
use Rattle.std.specs.Prelude.{◌≡◌, refl, [], ◌∷◌, replicate, Some, None, Ok, Err}
use Rattle.dns_data.specs.declared.fault.NameFault.TheVariants.{EmptyLabel, LabelTooLong, BadEscape}
use Rattle.master_read.specs.Entries.{owner_of, behind_owner}
use Rattle.master_read.specs.declared.context.Context.{Context}
use Rattle.master_read.specs.declared.fault.TextCause.TheVariants.{BadOwner, NoOwner}
use Rattle.master_read.proofs.Worked.Words.{bare, context_with, entry, in_quotes, indented, name, tokens}

-- no record stands before
abbrev first : Context
first = context_with (name "example") None None None

-- a record of www.example. stands before
abbrev second : Context
second = context_with (name "example") None None (Some (name "www.example"))

-- the first token, below the origin, or as it is
a_relative_owner : owner_of first (entry 1 (tokens "WWW A 10.0.0.1")) ≡ Ok (name "www.example")
unfolding owner_of
a_relative_owner = refl

an_absolute_owner : owner_of second (entry 1 (tokens "isi.edu. A 10.0.0.1")) ≡ Ok (name "isi.edu")
unfolding owner_of
an_absolute_owner = refl

the_origin : owner_of first (entry 1 (tokens "@ A 10.0.0.1")) ≡ Ok (name "example")
unfolding owner_of
the_origin = refl

the_root : owner_of first (entry 1 (tokens ". A 10.0.0.1")) ≡ Ok []
unfolding owner_of
the_root = refl

-- in quotes too
a_quoted_origin : owner_of first (entry 1 (in_quotes "@" ∷ tokens "A 10.0.0.1")) ≡ Ok (name "example")
unfolding owner_of
a_quoted_origin = refl

-- an escaped sign is a label's
an_escaped_sign : owner_of first (entry 1 (tokens "\\@ A 10.0.0.1")) ≡ Ok (name "@.example")
unfolding owner_of
an_escaped_sign = refl

a_dollar : owner_of first (entry 1 (tokens "\\$TTL A 10.0.0.1")) ≡ Ok (name "$ttl.example")
unfolding owner_of
a_dollar = refl

-- a type's word at the front of the line is an owner
a_type_in_front : owner_of second (entry 1 (tokens "A 10.0.0.1")) ≡ Ok (name "a.example")
unfolding owner_of
a_type_in_front = refl

-- behind white space the last owner
the_last_owner : owner_of second (indented 2 (tokens "A 10.0.0.1")) ≡ Ok (name "www.example")
unfolding owner_of
the_last_owner = refl

no_last_owner : owner_of first (indented 1 (tokens "A 10.0.0.1")) ≡ Err NoOwner
unfolding owner_of
no_last_owner = refl

-- what is no name
an_empty_owner : owner_of second (entry 1 (in_quotes "" ∷ tokens "A 10.0.0.1")) ≡ Err (BadOwner EmptyLabel)
unfolding owner_of
an_empty_owner = refl

a_long_label : owner_of second (entry 1 (bare (replicate 64 97) ∷ [])) ≡ Err (BadOwner LabelTooLong)
unfolding owner_of
a_long_label = refl

half_an_escape : owner_of second (entry 1 (tokens "a\\25 A")) ≡ Err (BadOwner BadEscape)
unfolding owner_of
half_an_escape = refl

-- the tokens behind it
behind_a_written_owner : behind_owner (entry 1 (tokens "www A 10.0.0.1")) ≡ tokens "A 10.0.0.1"
behind_a_written_owner = refl

behind_white_space : behind_owner (indented 1 (tokens "www A 10.0.0.1")) ≡ tokens "www A 10.0.0.1"
behind_white_space = refl
