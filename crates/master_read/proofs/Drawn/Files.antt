-- Small texts drawn at random.
use Rattle.std.specs.Prelude.{◌≡◌, refl, [], ◌∷◌, codes}
use Rattle.dns_data.specs.declared.fault.NameFault.TheVariants.{EmptyLabel}
use Rattle.dns_data.specs.declared.rdata.Rdata.TheVariants.{A, Ns, Cname, Soa, Srv, Other}
use Rattle.rdata_forms.specs.declared.fault.RdataFault.TheVariants.{BadNumber, BadAddress, GenericKnown}
use Rattle.master_read.specs.Directives.{directive_of, origin_directive, ttl_directive}
use Rattle.master_read.specs.Entries.{record_of, owner_of, front_in, one_more, type_said, data_behind, made_of}
use Rattle.master_read.specs.Words.{type_word, type_numbered, class_word, is_some_word}
use Rattle.master_read.specs.ZoneText.{effect_of, with_entry, with_entries, with_rest, zone_text}
use Rattle.master_read.specs.declared.fault.TextCause.TheVariants.{BadDirective, BadOwner, NoOwner, NoType, UnknownType, Rdata as BadData}
use Rattle.master_read.proofs.Worked.Words.{alone, faulty, reads, rr}

file_0 : alone (codes "t" ∷ []) 1 (codes "$TTL 1m\na..b\tDS \\# 1 \"aB\" \n") ≡ faulty 2 (BadOwner EmptyLabel)
unfolding zone_text with_rest with_entries with_entry effect_of record_of owner_of front_in one_more type_said data_behind made_of type_word type_numbered class_word is_some_word directive_of origin_directive ttl_directive
file_0 = refl

file_1 : alone (codes "t" ∷ []) 1 (codes "$TTL  1m\n$ORIGIN  a\n in  1h\tTYPE731") ≡ faulty 3 NoOwner
unfolding zone_text with_rest with_entries with_entry effect_of record_of owner_of front_in one_more type_said data_behind made_of type_word type_numbered class_word is_some_word directive_of origin_directive ttl_directive
file_1 = refl

file_2 : alone (codes "t" ∷ []) 9 (codes "$ORIGIN. f\n$ORIGIN t.\n") ≡ faulty 1 BadDirective
unfolding zone_text with_rest with_entries with_entry effect_of record_of owner_of front_in one_more type_said data_behind made_of type_word type_numbered class_word is_some_word directive_of origin_directive ttl_directive
file_2 = refl

file_3 : alone [] 2 (codes "A.b\tSRV  65536 65535  7 a\\.b\n\t60  TYPE01 ( 192.0.2.255 )\n 60 CLASS1 CNAME") ≡ faulty 1 (BadData BadNumber)
unfolding zone_text with_rest with_entries with_entry effect_of record_of owner_of front_in one_more type_said data_behind made_of type_word type_numbered class_word is_some_word directive_of origin_directive ttl_directive
file_3 = refl

file_4 : alone [] 2 (codes "$TTL\t1m\t\n()\n\\$TTL\n") ≡ faulty 3 NoType
unfolding zone_text with_rest with_entries with_entry effect_of record_of owner_of front_in one_more type_said data_behind made_of type_word type_numbered class_word is_some_word directive_of origin_directive ttl_directive
file_4 = refl

file_5 : alone [] 9 (codes ".  in  1h CLASS01 DS\n") ≡ faulty 1 UnknownType
unfolding zone_text with_rest with_entries with_entry effect_of record_of owner_of front_in one_more type_said data_behind made_of type_word type_numbered class_word is_some_word directive_of origin_directive ttl_directive
file_5 = refl

file_6 :
    alone (codes "t" ∷ codes "a" ∷ []) 9 (codes "A.b IN NS \\#\tns.t.\n()\n\t60 CLASS1  SOA\tB.c\tB.c 20 ( 2 ; x\n1h\n 4 5 )\n\n")
    ≡ faulty 1 (BadData GenericKnown)
unfolding zone_text with_rest with_entries with_entry effect_of record_of owner_of front_in one_more type_said data_behind made_of type_word type_numbered class_word is_some_word directive_of origin_directive ttl_directive
file_6 = refl

file_7 : alone (codes "t" ∷ codes "a" ∷ []) 9 (codes ". in  1h TYPE1 10.00.1\n") ≡ faulty 1 (BadData BadAddress)
unfolding zone_text with_rest with_entries with_entry effect_of record_of owner_of front_in one_more type_said data_behind made_of type_word type_numbered class_word is_some_word directive_of origin_directive ttl_directive
file_7 = refl

file_8 :
    alone (codes "t" ∷ []) 1 (codes "\\$TTL in  1h SRV  7  0 65535  @\n$ORIGIN a")
    ≡ reads ((rr (codes "t" ∷ codes "$ttl" ∷ []) 3600 (Srv 7 0 65535 (codes "t" ∷ [])) 1) ∷ []) 1
unfolding zone_text with_rest with_entries with_entry effect_of record_of owner_of front_in one_more type_said data_behind made_of type_word type_numbered class_word is_some_word directive_of origin_directive ttl_directive
file_8 = refl

file_9 :
    alone [] 9 (codes "\"www\" SOA ns.t. b  20  \"2\" 1h 4 1m\n")
    ≡ reads ((rr (codes "www" ∷ []) 60 (Soa (codes "t" ∷ codes "ns" ∷ []) (codes "b" ∷ []) 20 2 3600 4 60) 1) ∷ []) 1
unfolding zone_text with_rest with_entries with_entry effect_of record_of owner_of front_in one_more type_said data_behind made_of type_word type_numbered class_word is_some_word directive_of origin_directive ttl_directive
file_9 = refl

file_10 :
    alone (codes "t" ∷ []) 9 (codes "www 60 CLASS1 TYPE46\n. sshfp \\# 1 aB\n")
    ≡ reads ((rr [] 60 (Other (codes "SSHFP") (codes "\\#" ∷ codes "1" ∷ codes "aB" ∷ [])) 2) ∷ []) 2
unfolding zone_text with_rest with_entries with_entry effect_of record_of owner_of front_in one_more type_said data_behind made_of type_word type_numbered class_word is_some_word directive_of origin_directive ttl_directive
file_10 = refl

file_11 :
    alone (codes "t" ∷ codes "a" ∷ []) 1 (codes "\\$TTL 0 IN NS\tB.c\n\n")
    ≡ reads ((rr (codes "t" ∷ codes "a" ∷ codes "$ttl" ∷ []) 0 (Ns (codes "t" ∷ codes "a" ∷ codes "c" ∷ codes "b" ∷ [])) 1) ∷ []) 1
unfolding zone_text with_rest with_entries with_entry effect_of record_of owner_of front_in one_more type_said data_behind made_of type_word type_numbered class_word is_some_word directive_of origin_directive ttl_directive
file_11 = refl

file_12 :
    alone (codes "t" ∷ codes "a" ∷ []) 1 (codes "A.b\t0\tIN ( CNAME\t\"@\" )")
    ≡ reads ((rr (codes "t" ∷ codes "a" ∷ codes "b" ∷ codes "a" ∷ []) 0 (Cname (codes "t" ∷ codes "a" ∷ [])) 1) ∷ []) 1
unfolding zone_text with_rest with_entries with_entry effect_of record_of owner_of front_in one_more type_said data_behind made_of type_word type_numbered class_word is_some_word directive_of origin_directive ttl_directive
file_12 = refl
