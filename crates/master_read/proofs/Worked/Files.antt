-- The records of whole texts.
use Rattle.std.specs.Prelude.{◌≡◌, refl, ℕ, List, [], ◌∷◌, ◌++◌, codes}
use Rattle.dns_data.specs.declared.rdata.Rdata.TheVariants.{A, Ns, Soa, Mx, Txt, Other}
use Rattle.dns_data.specs.declared.rdata.Rr.{Rr}
use Rattle.master_lex.specs.declared.fault.LexKind.TheVariants.{OpenParen, OpenQuote, StrayClose, BadEscape}
use Rattle.rdata_forms.specs.declared.fault.RdataFault.TheVariants.{FieldCount, BadAddress}
use Rattle.master_read.specs.Directives.{directive_of, origin_directive, ttl_directive}
use Rattle.master_read.specs.Entries.{record_of, owner_of, front_in, one_more, type_said, data_behind, made_of}
use Rattle.master_read.specs.Words.{type_word, type_numbered, class_word, is_some_word}
use Rattle.master_read.specs.ZoneText.{effect_of, with_entry, with_entries, with_rest, zone_text}
use Rattle.master_read.specs.declared.fault.TextCause.TheVariants.{BadDirective, Lex, Rdata as BadData, NoTtl, TooMany}
use Rattle.master_read.proofs.StandardFacts.{isi_edu}
use Rattle.master_read.proofs.Worked.Words.{alone, faulty, lines, name, reads, rr}

-- the file of the zone ISI.EDU, without room for its last record
isi_edu_without_room : alone (name "isi.edu") 10 isi_edu ≡ faulty 20 TooMany
unfolding zone_text with_rest with_entries with_entry effect_of record_of owner_of front_in one_more type_said data_behind made_of type_word class_word is_some_word directive_of
isi_edu_without_room = refl

-- a file as a server's documentation prints one
abbrev by_hand : List ℕ
by_hand = lines
    (codes "$TTL 1d"
    ∷ codes "$ORIGIN example.com."
    ∷ codes "@   IN  SOA ns1 hostmaster ("
    ∷ codes "            2024010101 ; serial"
    ∷ codes "            3h 15m 1w 1h )"
    ∷ codes "    IN  NS  ns1"
    ∷ codes "ns1     A   192.0.2.1"
    ∷ codes "www 300 IN A 192.0.2.2"
    ∷ codes "    IN 300 TXT \"v=x; y\" \"two\""
    ∷ codes "mail    MX  10 ns1"
    ∷ codes "www RRSIG A 8 3 300 20240101000000 20231201000000 1 example.com. abcd"
    ∷ [])

abbrev by_hand_records : List Rr
by_hand_records =
    rr (name "example.com") 86400
    (Soa (name "ns1.example.com") (name "hostmaster.example.com") 2024010101 10800 900 604800 3600) 3
    ∷ rr (name "example.com") 86400 (Ns (name "ns1.example.com")) 6
    ∷ rr (name "ns1.example.com") 86400 (A (192 ∷ 0 ∷ 2 ∷ 1 ∷ [])) 7
    ∷ rr (name "www.example.com") 300 (A (192 ∷ 0 ∷ 2 ∷ 2 ∷ [])) 8
    ∷ rr (name "www.example.com") 300 (Txt (codes "v=x; y" ∷ codes "two" ∷ [])) 9
    ∷ rr (name "mail.example.com") 86400 (Mx 10 (name "ns1.example.com")) 10
    ∷ []

by_hand_reads : alone [] 1000000 by_hand ≡ reads by_hand_records 7
unfolding zone_text with_rest with_entries with_entry effect_of record_of owner_of front_in one_more type_said data_behind made_of type_word class_word is_some_word directive_of origin_directive ttl_directive
by_hand_reads = refl

-- a file as a server writes one
abbrev by_server : List ℕ
by_server = lines
    (codes "$ORIGIN ."
    ∷ codes "$TTL 86400 ; 1 day"
    ∷ codes "example.com IN SOA ns1.example.com. hostmaster.example.com. ("
    ∷ codes "            2024010101 ; serial"
    ∷ codes "            10800 900 604800 3600 )"
    ∷ codes "    NS  ns1.example.com."
    ∷ codes "$ORIGIN example.com."
    ∷ codes "ns1 A   192.0.2.1"
    ∷ codes "    TYPE65534 \\# 5 ( 0800010001 )"
    ∷ [])

abbrev by_server_records : List Rr
by_server_records =
    rr (name "example.com") 86400
    (Soa (name "ns1.example.com") (name "hostmaster.example.com") 2024010101 10800 900 604800 3600) 3
    ∷ rr (name "example.com") 86400 (Ns (name "ns1.example.com")) 6
    ∷ rr (name "ns1.example.com") 86400 (A (192 ∷ 0 ∷ 2 ∷ 1 ∷ [])) 8
    ∷ rr (name "ns1.example.com") 86400 (Other (codes "TYPE65534") (codes "\\#" ∷ codes "5" ∷ codes "0800010001" ∷ [])) 9
    ∷ []

by_server_reads : alone [] 4 by_server ≡ reads by_server_records 4
unfolding zone_text with_rest with_entries with_entry effect_of record_of owner_of front_in one_more type_said data_behind made_of type_word type_numbered class_word is_some_word directive_of origin_directive ttl_directive
by_server_reads = refl

-- two records
abbrev head : List ℕ
head = lines (codes "t. 60 SOA ns.t. h.t. 1 2 3 4 5" ∷ codes "t. 60 NS ns.t." ∷ [])

abbrev head_records : List Rr
head_records = rr (name "t") 60 (Soa (name "ns.t") (name "h.t") 1 2 3 4 5) 1 ∷ rr (name "t") 60 (Ns (name "ns.t")) 2 ∷ []

head_reads : alone [] 2 head ≡ reads head_records 2
unfolding zone_text with_rest with_entries with_entry effect_of record_of owner_of front_in one_more type_said data_behind made_of type_word class_word is_some_word
head_reads = refl

-- a third for which there is no room
one_too_many : alone [] 2 (head ++ codes "x.t. 60 A 10.0.0.1") ≡ faulty 3 TooMany
unfolding zone_text with_rest with_entries with_entry effect_of record_of owner_of front_in one_more type_said data_behind made_of type_word class_word is_some_word
one_too_many = refl

-- a third with bad data
a_bad_address : alone [] 3 (head ++ codes "x.t. 60 A 10.0.0.256") ≡ faulty 3 (BadData BadAddress)
unfolding zone_text with_rest with_entries with_entry effect_of record_of owner_of front_in one_more type_said data_behind made_of type_word class_word is_some_word
a_bad_address = refl

-- a text that was cut off
cut_off : alone [] 9 (codes "t. 60 SOA ns.t. h.t.") ≡ faulty 1 (BadData FieldCount)
unfolding zone_text with_rest with_entries with_entry effect_of record_of owner_of front_in one_more type_said data_behind type_word class_word is_some_word
cut_off = refl

-- texts without an entry
empty : alone [] 0 [] ≡ reads [] 0
unfolding zone_text with_rest with_entries
empty = refl

remarks_alone : alone [] 0 (codes "; (\n \t\r\n ( ) ; \"\n") ≡ reads [] 0
unfolding zone_text with_rest with_entries
remarks_alone = refl

-- the fault of a spelling comes at its own line, and behind that of an entry before it
open_at_the_end : alone [] 9 (head ++ codes "\nt. 60 TXT ( a\n( b )\n") ≡ faulty 4 (Lex OpenParen)
unfolding zone_text with_rest with_entries with_entry effect_of record_of owner_of front_in one_more type_said data_behind made_of type_word class_word is_some_word
open_at_the_end = refl

a_quote_left_open : alone [] 9 (codes "t. 60 TXT (\n\"a\n\")") ≡ faulty 2 (Lex OpenQuote)
unfolding zone_text with_rest with_entries
a_quote_left_open = refl

a_fault_before_the_spelling : alone [] 9 (codes "t. NS ns.t.\nt. 60 TXT )") ≡ faulty 1 NoTtl
unfolding zone_text with_rest with_entries with_entry effect_of record_of owner_of front_in one_more type_said data_behind made_of type_word class_word is_some_word
a_fault_before_the_spelling = refl

a_spelling_before_a_fault : alone [] 9 (codes "t. 60 TXT )\nt. NS ns.t.\n") ≡ faulty 1 (Lex StrayClose)
unfolding zone_text with_rest with_entries
a_spelling_before_a_fault = refl

-- in the same entry the spelling counts
the_spelling_counts : alone [] 9 (codes "a..b 1x CH \\25") ≡ faulty 1 (Lex BadEscape)
unfolding zone_text with_rest with_entries
the_spelling_counts = refl

-- an entry's line is that of its first token
behind_a_parenthesis : alone [] 9 (codes "(\n\n$TTL )") ≡ faulty 3 BadDirective
unfolding zone_text with_rest with_entries with_entry effect_of directive_of ttl_directive
behind_a_parenthesis = refl
