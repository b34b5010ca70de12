-- What stands in front of a record's type: a TTL and a class (RFC 1035 section 5.1).
use Rattle.std.specs.Prelude.{◌≡◌, refl, [], ◌∷◌, Some, None, Ok, Err}
use Rattle.master_read.specs.Entries.{front_in, one_more}
use Rattle.master_read.specs.Words.{class_word, is_some_word}
use Rattle.master_read.specs.declared.fault.TextCause.TheVariants.{BadTtl, NotIn}
use Rattle.master_read.proofs.Worked.Words.{front_in_class, front_with, in_quotes, token, tokens}

-- neither, one, or both in either order
neither : front_in (tokens "A 10.0.0.1") ≡ Ok (front_with None (tokens "A 10.0.0.1"))
unfolding front_in one_more class_word is_some_word
neither = refl

a_ttl : front_in (tokens "60 A 10.0.0.1") ≡ Ok (front_with (Some 60) (tokens "A 10.0.0.1"))
unfolding front_in one_more class_word is_some_word
a_ttl = refl

a_class : front_in (tokens "in A 10.0.0.1") ≡ Ok (front_in_class None (tokens "A 10.0.0.1"))
unfolding front_in one_more class_word is_some_word
a_class = refl

a_ttl_and_a_class : front_in (tokens "1h IN A 10.0.0.1") ≡ Ok (front_in_class (Some 3600) (tokens "A 10.0.0.1"))
unfolding front_in one_more class_word is_some_word
a_ttl_and_a_class = refl

a_class_and_a_ttl : front_in (tokens "CLASS1 60 A 10.0.0.1") ≡ Ok (front_in_class (Some 60) (tokens "A 10.0.0.1"))
unfolding front_in one_more class_word is_some_word
a_class_and_a_ttl = refl

-- each once: a second one is left where the type stands
two_ttls : front_in (tokens "60 61 A") ≡ Ok (front_with (Some 60) (tokens "61 A"))
unfolding front_in one_more class_word is_some_word
two_ttls = refl

two_ttls_around_a_class : front_in (tokens "60 IN 1x A") ≡ Ok (front_in_class (Some 60) (tokens "1x A"))
unfolding front_in one_more class_word is_some_word
two_ttls_around_a_class = refl

two_classes : front_in (tokens "IN IN A") ≡ Ok (front_in_class None (tokens "IN A"))
unfolding front_in one_more class_word is_some_word
two_classes = refl

another_class_behind_the_first : front_in (tokens "IN CH A") ≡ Ok (front_in_class None (tokens "CH A"))
unfolding front_in one_more class_word is_some_word
another_class_behind_the_first = refl

-- what begins with a digit is a TTL, or none
no_ttl : front_in (tokens "1x A") ≡ Err BadTtl
unfolding front_in one_more
no_ttl = refl

too_long_a_ttl : front_in (tokens "2147483648 A") ≡ Err BadTtl
unfolding front_in one_more
too_long_a_ttl = refl

no_ttl_behind_a_class : front_in (tokens "IN 1h1 A") ≡ Err BadTtl
unfolding front_in one_more class_word is_some_word
no_ttl_behind_a_class = refl

-- other classes
chaos : front_in (tokens "CH A") ≡ Err NotIn
unfolding front_in one_more class_word is_some_word
chaos = refl

hesiod_behind_a_ttl : front_in (tokens "60 hs A") ≡ Err NotIn
unfolding front_in one_more class_word is_some_word
hesiod_behind_a_ttl = refl

a_class_of_one_with_a_zero : front_in (tokens "CLASS01 A") ≡ Err NotIn
unfolding front_in one_more class_word is_some_word
a_class_of_one_with_a_zero = refl

-- of two faults the first
the_ttl_before_the_class : front_in (tokens "1x CH A") ≡ Err BadTtl
unfolding front_in one_more
the_ttl_before_the_class = refl

the_class_before_the_ttl : front_in (tokens "CH 1x A") ≡ Err NotIn
unfolding front_in one_more class_word is_some_word
the_class_before_the_ttl = refl

-- a token in quotes ends it
a_quoted_ttl : front_in (in_quotes "60" ∷ token "A" ∷ []) ≡ Ok (front_with None (in_quotes "60" ∷ token "A" ∷ []))
unfolding front_in one_more
a_quoted_ttl = refl

a_quoted_class : front_in (token "60" ∷ in_quotes "CH" ∷ []) ≡ Ok (front_with (Some 60) (in_quotes "CH" ∷ []))
unfolding front_in one_more
a_quoted_class = refl

-- what stands in front may end the entry
nothing : front_in [] ≡ Ok (front_with None [])
unfolding front_in one_more
nothing = refl

nothing_behind_it : front_in (tokens "IN 60") ≡ Ok (front_in_class (Some 60) [])
unfolding front_in one_more class_word is_some_word
nothing_behind_it = refl
