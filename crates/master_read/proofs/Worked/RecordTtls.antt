-- TTLs of records, and what records leave for the next ones.
use Rattle.std.specs.Prelude.{◌≡◌, refl, [], ◌∷◌, codes, Some, None, Err}
use Rattle.dns_data.specs.declared.rdata.Rdata.{Rdata}
use Rattle.dns_data.specs.declared.rdata.Rdata.TheVariants.{A, Soa, Other}
use Rattle.master_read.specs.Entries.{record_of, owner_of, front_in, one_more, type_said, data_behind, made_of}
use Rattle.master_read.specs.Words.{type_word, class_word, is_some_word}
use Rattle.master_read.specs.declared.fault.TextCause.TheVariants.{NoTtl}
use Rattle.master_read.proofs.Worked.Words.{context_with, drops, entry, indented, makes, name, rr, tokens}

-- the address 10.0.0.1
abbrev address : Rdata
address = A (10 ∷ 0 ∷ 0 ∷ 1 ∷ [])

-- a start of authority with MINIMUM 5
abbrev start : Rdata
start = Soa (name "ns.t") (name "h.t") 1 2 3 4 5

-- the stated one, before that of `$TTL` and the last stated one; it is the last stated one then
stated :
    record_of 0 (context_with [] (Some 7) (Some 8) None) (entry 3 (tokens "www.t. 60 A 10.0.0.1"))
    ≡ makes (context_with [] (Some 7) (Some 60) (Some (name "www.t"))) (rr (name "www.t") 60 address 3)
unfolding record_of owner_of front_in one_more type_said data_behind made_of type_word class_word is_some_word
stated = refl

-- the TTL of `$TTL` comes before the last stated one (RFC 2308 section 4)
by_default :
    record_of 0 (context_with [] (Some 7) (Some 8) None) (entry 3 (tokens "www.t. A 10.0.0.1"))
    ≡ makes (context_with [] (Some 7) (Some 8) (Some (name "www.t"))) (rr (name "www.t") 7 address 3)
unfolding record_of owner_of front_in one_more type_said data_behind made_of type_word class_word is_some_word
by_default = refl

-- the last stated one (RFC 1035 section 5.1)
the_last_stated :
    record_of 0 (context_with [] None (Some 8) (Some (name "t"))) (indented 3 (tokens "IN A 10.0.0.1"))
    ≡ makes (context_with [] None (Some 8) (Some (name "t"))) (rr (name "t") 8 address 3)
unfolding record_of owner_of front_in one_more type_said data_behind made_of type_word class_word is_some_word
the_last_stated = refl

-- none
no_ttl : record_of 0 (context_with [] None None None) (entry 3 (tokens "www.t. A 10.0.0.1")) ≡ Err NoTtl
unfolding record_of owner_of front_in one_more type_said data_behind made_of type_word class_word is_some_word
no_ttl = refl

-- an SOA's MINIMUM, which counts as stated then
the_minimum :
    record_of 0 (context_with [] None None None) (entry 1 (tokens "t. SOA ns.t. h.t. 1 2 3 4 5"))
    ≡ makes (context_with [] None (Some 5) (Some (name "t"))) (rr (name "t") 5 start 1)
unfolding record_of owner_of front_in one_more type_said data_behind made_of type_word class_word is_some_word
the_minimum = refl

-- the MINIMUM doesn't count as stated where another gives the TTL
a_start_with_a_ttl :
    record_of 0 (context_with [] None None None) (entry 1 (tokens "t. 60 SOA ns.t. h.t. 1 2 3 4 5"))
    ≡ makes (context_with [] None (Some 60) (Some (name "t"))) (rr (name "t") 60 start 1)
unfolding record_of owner_of front_in one_more type_said data_behind made_of type_word class_word is_some_word
a_start_with_a_ttl = refl

a_start_by_default :
    record_of 0 (context_with [] (Some 7) None None) (entry 2 (tokens "t. SOA ns.t. h.t. 1 2 3 4 5"))
    ≡ makes (context_with [] (Some 7) None (Some (name "t"))) (rr (name "t") 7 start 2)
unfolding record_of owner_of front_in one_more type_said data_behind made_of type_word class_word is_some_word
a_start_by_default = refl

a_start_behind_a_stated_ttl :
    record_of 0 (context_with [] None (Some 8) None) (entry 2 (tokens "t. SOA ns.t. h.t. 1 2 3 4 5"))
    ≡ makes (context_with [] None (Some 8) (Some (name "t"))) (rr (name "t") 8 start 2)
unfolding record_of owner_of front_in one_more type_said data_behind made_of type_word class_word is_some_word
a_start_behind_a_stated_ttl = refl

-- no seconds are a TTL too
no_seconds :
    record_of 0 (context_with [] (Some 7) (Some 8) None) (entry 3 (tokens "t. 0 A 10.0.0.1"))
    ≡ makes (context_with [] (Some 7) (Some 0) (Some (name "t"))) (rr (name "t") 0 address 3)
unfolding record_of owner_of front_in one_more type_said data_behind made_of type_word class_word is_some_word
no_seconds = refl

-- a record of a dropped type needs none, and its data aren't looked at
dropped_without_a_ttl :
    record_of 0 (context_with [] None None None) (entry 1 (tokens "t. RRSIG"))
    ≡ drops (context_with [] None None (Some (name "t")))
unfolding record_of owner_of front_in one_more type_said data_behind made_of type_word class_word is_some_word
dropped_without_a_ttl = refl

-- the owner and the stated TTL of a dropped record count as those of any record
dropped_with_a_ttl :
    record_of 0 (context_with [] None (Some 8) None) (entry 1 (tokens "t. 60 NSEC3 \\# zz"))
    ≡ drops (context_with [] None (Some 60) (Some (name "t")))
unfolding record_of owner_of front_in one_more type_said data_behind made_of type_word class_word is_some_word
dropped_with_a_ttl = refl

dropped_by_number :
    record_of 0 (context_with [] None None (Some (name "t"))) (indented 2 (tokens "TYPE47 x"))
    ≡ drops (context_with [] None None (Some (name "t")))
unfolding record_of owner_of front_in one_more type_said data_behind made_of type_word class_word is_some_word
dropped_by_number = refl

-- data of another type stand under its word in upper case
kept :
    record_of 0 (context_with [] (Some 7) None None) (entry 3 (tokens "x.t. sshfp 1 1 ab"))
    ≡ makes (context_with [] (Some 7) None (Some (name "x.t")))
    (rr (name "x.t") 7 (Other (codes "SSHFP") (codes "1" ∷ codes "1" ∷ codes "ab" ∷ [])) 3)
unfolding record_of owner_of front_in one_more type_said data_behind made_of type_word class_word is_some_word
kept = refl

-- names in data stand below the origin
below_the_origin :
    record_of 0 (context_with (name "t") (Some 5) None None) (entry 1 (tokens "@ SOA ns h 1 2 3 4 5"))
    ≡ makes (context_with (name "t") (Some 5) None (Some (name "t"))) (rr (name "t") 5 start 1)
unfolding record_of owner_of front_in one_more type_said data_behind made_of type_word class_word is_some_word
below_the_origin = refl
