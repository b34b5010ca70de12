-- Record entries drawn at random, each in a context.
use Rattle.std.specs.Prelude.{◌≡◌, refl, [], ◌∷◌, codes, Some, None, Err}
use Rattle.dns_data.specs.declared.fault.NameFault.TheVariants.{EmptyLabel}
use Rattle.dns_data.specs.declared.rdata.Rdata.TheVariants.{A, Ns, Soa, Txt, Srv, Caa, Other}
use Rattle.rdata_forms.specs.declared.fault.RdataFault.TheVariants.{FieldCount, BadNumber, BadAddress, BadHex}
use Rattle.master_read.specs.Entries.{record_of, owner_of, front_in, one_more, type_said, data_behind, made_of}
use Rattle.master_read.specs.Words.{type_word, type_numbered, class_word, is_some_word}
use Rattle.master_read.specs.declared.fault.TextCause.TheVariants.{BadOwner, NoOwner, NoType, UnknownType, NotIn as ClassNotIn, Rdata as BadData, NoTtl}
use Rattle.master_read.proofs.Worked.Words.{context_with, drops, entry, in_quotes, indented, makes, rr, token}

entry_0 :
    record_of 0 (context_with (codes "t" ∷ []) None None None) (entry 5 (token "\\$TTL" ∷ token "60" ∷ token "nsec3" ∷ token "1" ∷ token "1" ∷ token "ab" ∷ token "x" ∷ []))
    ≡ drops (context_with (codes "t" ∷ []) None (Some 60) (Some (codes "t" ∷ codes "$ttl" ∷ [])))
unfolding record_of owner_of front_in one_more type_said data_behind made_of type_word type_numbered class_word is_some_word
entry_0 = refl

entry_1 : record_of 0 (context_with [] None None (Some (codes "t" ∷ codes "www" ∷ []))) (entry 9 (token "." ∷ token "TXT" ∷ token "a" ∷ [])) ≡ Err NoTtl
unfolding record_of owner_of front_in one_more type_said data_behind made_of type_word type_numbered class_word is_some_word
entry_1 = refl

entry_2 :
    record_of 0 (context_with (codes "t" ∷ []) None None (Some (codes "t" ∷ []))) (entry 4 (token "A.b" ∷ token "NSEC" ∷ token "\\#" ∷ token "2" ∷ token "ab" ∷ token "x" ∷ []))
    ≡ drops (context_with (codes "t" ∷ []) None None (Some (codes "t" ∷ codes "b" ∷ codes "a" ∷ [])))
unfolding record_of owner_of front_in one_more type_said data_behind made_of type_word type_numbered class_word is_some_word
entry_2 = refl

entry_3 :
    record_of 0 (context_with [] None None (Some (codes "t" ∷ []))) (entry 9 (token "A.b" ∷ token "60" ∷ token "DS" ∷ token "\\#" ∷ token "0" ∷ []))
    ≡ makes (context_with [] None (Some 60) (Some (codes "b" ∷ codes "a" ∷ []))) (rr (codes "b" ∷ codes "a" ∷ []) 60 (Other (codes "DS") (codes "\\#" ∷ codes "0" ∷ [])) 9)
unfolding record_of owner_of front_in one_more type_said data_behind made_of type_word type_numbered class_word is_some_word
entry_3 = refl

entry_4 :
    record_of 0 (context_with (codes "t" ∷ []) None (Some 8) None) (entry 6 (token "@" ∷ token "0" ∷ token "IN" ∷ token "SRV" ∷ token "65535" ∷ token "0" ∷ token "65535" ∷ token "." ∷ []))
    ≡ makes (context_with (codes "t" ∷ []) None (Some 0) (Some (codes "t" ∷ []))) (rr (codes "t" ∷ []) 0 (Srv 65535 0 65535 []) 6)
unfolding record_of owner_of front_in one_more type_said data_behind made_of type_word type_numbered class_word is_some_word
entry_4 = refl

entry_5 :
    record_of 0 (context_with (codes "t" ∷ []) None None (Some (codes "t" ∷ []))) (indented 7 (token "60" ∷ token "CLASS01" ∷ token "A" ∷ token "10.0.0.2" ∷ []))
    ≡ Err ClassNotIn
unfolding record_of owner_of front_in one_more type_said data_behind made_of type_word type_numbered class_word is_some_word
entry_5 = refl

entry_6 :
    record_of 0 (context_with (codes "t" ∷ []) None None None) (entry 2 (token "www" ∷ token "IN" ∷ token "ANY" ∷ token "\\#" ∷ in_quotes "1" ∷ token "aB" ∷ []))
    ≡ Err UnknownType
unfolding record_of owner_of front_in one_more type_said data_behind made_of type_word type_numbered class_word is_some_word
entry_6 = refl

entry_7 :
    record_of 0 (context_with (codes "t" ∷ []) None (Some 8) (Some (codes "t" ∷ codes "www" ∷ []))) (entry 9 (token "t." ∷ token "0" ∷ token "IN" ∷ token "TXT" ∷ in_quotes "B c" ∷ in_quotes "B c" ∷ []))
    ≡ makes (context_with (codes "t" ∷ []) None (Some 0) (Some (codes "t" ∷ []))) (rr (codes "t" ∷ []) 0 (Txt (codes "B c" ∷ codes "B c" ∷ [])) 9)
unfolding record_of owner_of front_in one_more type_said data_behind made_of type_word type_numbered class_word is_some_word
entry_7 = refl

entry_8 : record_of 0 (context_with [] (Some 7) None None) (indented 4 (token "60" ∷ token "CLASS1" ∷ token "NSEC" ∷ [])) ≡ Err NoOwner
unfolding record_of owner_of front_in one_more type_said data_behind made_of type_word type_numbered class_word is_some_word
entry_8 = refl

entry_9 :
    record_of 0 (context_with (codes "t" ∷ []) None None (Some (codes "t" ∷ []))) (entry 2 (token "*.x" ∷ token "TYPE01" ∷ in_quotes "10.0.0.1" ∷ token "x" ∷ []))
    ≡ Err (BadData FieldCount)
unfolding record_of owner_of front_in one_more type_said data_behind made_of type_word type_numbered class_word is_some_word
entry_9 = refl

entry_10 :
    record_of 0 (context_with (codes "t" ∷ codes "a" ∷ []) None None (Some (codes "t" ∷ []))) (entry 7 (token "t." ∷ token "in" ∷ token "1h" ∷ token "NS" ∷ token "ns.t." ∷ []))
    ≡ makes (context_with (codes "t" ∷ codes "a" ∷ []) None (Some 3600) (Some (codes "t" ∷ []))) (rr (codes "t" ∷ []) 3600 (Ns (codes "t" ∷ codes "ns" ∷ [])) 7)
unfolding record_of owner_of front_in one_more type_said data_behind made_of type_word type_numbered class_word is_some_word
entry_10 = refl

entry_11 : record_of 0 (context_with [] None (Some 8) (Some (codes "t" ∷ codes "www" ∷ []))) (indented 9 (token "in" ∷ token "1h" ∷ [])) ≡ Err NoType
unfolding record_of owner_of front_in one_more type_said data_behind made_of type_word type_numbered class_word is_some_word
entry_11 = refl

entry_12 :
    record_of 0 (context_with [] (Some 7) None (Some (codes "t" ∷ codes "www" ∷ []))) (entry 6 (token "\\$TTL" ∷ token "TYPE01" ∷ token "10.0.0.256" ∷ []))
    ≡ Err (BadData BadAddress)
unfolding record_of owner_of front_in one_more type_said data_behind made_of type_word type_numbered class_word is_some_word
entry_12 = refl

entry_13 :
    record_of 0 (context_with (codes "t" ∷ []) (Some 7) None None) (entry 8 (token "@" ∷ token "60" ∷ token "CLASS1" ∷ token "DS" ∷ token "\\#" ∷ token "2" ∷ token "ab" ∷ []))
    ≡ Err (BadData BadHex)
unfolding record_of owner_of front_in one_more type_said data_behind made_of type_word type_numbered class_word is_some_word
entry_13 = refl

entry_14 :
    record_of 0 (context_with (codes "t" ∷ codes "a" ∷ []) None None (Some (codes "t" ∷ codes "www" ∷ []))) (entry 6 (token "a..b" ∷ token "60" ∷ token "CLASS1" ∷ token "TYPE01" ∷ token "10.0.0.256" ∷ []))
    ≡ Err (BadOwner EmptyLabel)
unfolding record_of owner_of front_in one_more type_said data_behind made_of type_word type_numbered class_word is_some_word
entry_14 = refl

entry_15 :
    record_of 0 (context_with (codes "t" ∷ []) None (Some 8) (Some (codes "t" ∷ codes "www" ∷ []))) (entry 3 (token "t." ∷ token "IN" ∷ token "SOA" ∷ token "a\\.b" ∷ token "@" ∷ token "20" ∷ token "2" ∷ token "1h" ∷ token "4" ∷ token "1m" ∷ []))
    ≡ makes (context_with (codes "t" ∷ []) None (Some 8) (Some (codes "t" ∷ []))) (rr (codes "t" ∷ []) 8 (Soa (codes "t" ∷ codes "a.b" ∷ []) (codes "t" ∷ []) 20 2 3600 4 60) 3)
unfolding record_of owner_of front_in one_more type_said data_behind made_of type_word type_numbered class_word is_some_word
entry_15 = refl

entry_16 :
    record_of 0 (context_with (codes "t" ∷ codes "a" ∷ []) None (Some 8) (Some (codes "t" ∷ codes "www" ∷ []))) (indented 1 (token "SRV" ∷ token "65536" ∷ token "7" ∷ token "65535" ∷ in_quotes "ns.t." ∷ []))
    ≡ Err (BadData BadNumber)
unfolding record_of owner_of front_in one_more type_said data_behind made_of type_word type_numbered class_word is_some_word
entry_16 = refl

entry_17 :
    record_of 0 (context_with (codes "t" ∷ codes "a" ∷ []) (Some 7) (Some 8) None) (entry 9 (token "@" ∷ token "IN" ∷ token "CAA" ∷ token "0" ∷ token "issue" ∷ token "x" ∷ []))
    ≡ makes (context_with (codes "t" ∷ codes "a" ∷ []) (Some 7) (Some 8) (Some (codes "t" ∷ codes "a" ∷ []))) (rr (codes "t" ∷ codes "a" ∷ []) 7 (Caa 0 (codes "issue") (codes "x")) 9)
unfolding record_of owner_of front_in one_more type_said data_behind made_of type_word type_numbered class_word is_some_word
entry_17 = refl
