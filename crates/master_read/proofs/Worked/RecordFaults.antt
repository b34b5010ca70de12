-- Which fault of a record counts: the first in the order of the steps.
use Rattle.std.specs.Prelude.{◌≡◌, refl, [], ◌∷◌, Some, None, Err}
use Rattle.dns_data.specs.declared.fault.NameFault.TheVariants.{EmptyLabel}
use Rattle.rdata_forms.specs.declared.fault.RdataFault.TheVariants.{FieldCount, BadAddress, BadName, BadHex}
use Rattle.master_read.specs.Entries.{record_of, owner_of, front_in, one_more, type_said, data_behind}
use Rattle.master_read.specs.Words.{type_word, type_numbered, class_word, is_some_word}
use Rattle.master_read.specs.declared.context.Context.{Context}
use Rattle.master_read.specs.declared.fault.TextCause.TheVariants.{BadOwner, NoOwner, NoType, UnknownType, NotIn, BadTtl, Rdata as BadData}
use Rattle.master_read.proofs.Worked.Words.{context_with, entry, in_quotes, indented, name, token, tokens}

-- nothing stands before
abbrev first : Context
first = context_with [] None None None

-- a record of t. stands before, and a TTL
abbrev second : Context
second = context_with [] (Some 7) None (Some (name "t"))

-- the owner, before what stands behind it
a_bad_owner : record_of 0 first (entry 1 (tokens "a..b 1x CH ANY")) ≡ Err (BadOwner EmptyLabel)
unfolding record_of owner_of
a_bad_owner = refl

no_owner : record_of 0 first (indented 1 (tokens "1x CH ANY")) ≡ Err NoOwner
unfolding record_of owner_of
no_owner = refl

-- the TTL and the class, before the type
a_bad_ttl : record_of 0 second (entry 1 (tokens "t. 1x")) ≡ Err BadTtl
unfolding record_of owner_of front_in one_more
a_bad_ttl = refl

another_class : record_of 0 second (entry 1 (tokens "t. CH ANY")) ≡ Err NotIn
unfolding record_of owner_of front_in one_more class_word is_some_word
another_class = refl

-- no type
an_owner_alone : record_of 0 second (entry 1 (tokens "t.")) ≡ Err NoType
unfolding record_of owner_of front_in one_more data_behind
an_owner_alone = refl

nothing_behind_the_class : record_of 0 second (indented 1 (tokens "60 IN")) ≡ Err NoType
unfolding record_of owner_of front_in one_more data_behind class_word is_some_word
nothing_behind_the_class = refl

-- an unknown one: a word of a question, a second TTL, a second class, a word in quotes
any : record_of 0 second (entry 1 (tokens "t. ANY x")) ≡ Err UnknownType
unfolding record_of owner_of front_in one_more data_behind type_said type_word class_word is_some_word
any = refl

two_ttls : record_of 0 second (entry 1 (tokens "t. 60 60 A 10.0.0.1")) ≡ Err UnknownType
unfolding record_of owner_of front_in one_more data_behind type_said type_word class_word is_some_word
two_ttls = refl

two_classes : record_of 0 second (entry 1 (tokens "t. IN IN A 10.0.0.1")) ≡ Err UnknownType
unfolding record_of owner_of front_in one_more data_behind type_said type_word class_word is_some_word
two_classes = refl

a_quoted_type : record_of 0 second (entry 1 (token "t." ∷ in_quotes "A" ∷ token "10.0.0.1" ∷ [])) ≡ Err UnknownType
unfolding record_of owner_of front_in one_more data_behind type_said
a_quoted_type = refl

a_quoted_ttl : record_of 0 second (entry 1 (token "t." ∷ in_quotes "60" ∷ tokens "A 10.0.0.1")) ≡ Err UnknownType
unfolding record_of owner_of front_in one_more data_behind type_said
a_quoted_ttl = refl

an_escaped_type : record_of 0 second (entry 1 (tokens "t. \\A 10.0.0.1")) ≡ Err UnknownType
unfolding record_of owner_of front_in one_more data_behind type_said type_word class_word is_some_word
an_escaped_type = refl

a_directive_behind_white_space : record_of 0 second (indented 1 (tokens "$TTL 60")) ≡ Err UnknownType
unfolding record_of owner_of front_in one_more data_behind type_said type_word class_word is_some_word
a_directive_behind_white_space = refl

-- data, before the TTL that is missing
bad_data : record_of 0 first (entry 1 (tokens "t. A 10.0.0.256")) ≡ Err (BadData BadAddress)
unfolding record_of owner_of front_in one_more data_behind type_said type_word class_word is_some_word
bad_data = refl

no_data : record_of 0 first (entry 1 (tokens "t. A")) ≡ Err (BadData FieldCount)
unfolding record_of owner_of front_in one_more data_behind type_said type_word class_word is_some_word
no_data = refl

a_bad_name : record_of 0 first (entry 1 (tokens "t. NS a..b")) ≡ Err (BadData (BadName EmptyLabel))
unfolding record_of owner_of front_in one_more data_behind type_said type_word class_word is_some_word
a_bad_name = refl

bad_digits : record_of 0 first (entry 1 (tokens "t. TYPE731 \\# 1 a")) ≡ Err (BadData BadHex)
unfolding record_of owner_of front_in one_more data_behind type_said type_word type_numbered class_word is_some_word
bad_digits = refl
