-- How entries follow one another: the records so far, their number, and the room for them.
use Rattle.std.specs.Prelude.{◌≡◌, refl, ℕ, List, [], ◌∷◌, Some, None, Ok, Err}
use Rattle.dns_data.specs.declared.rdata.Rdata.TheVariants.{A, Ns}
use Rattle.dns_data.specs.declared.rdata.Rr.{Rr}
use Rattle.master_lex.specs.declared.entry.Entry.{Entry}
use Rattle.master_lex.specs.declared.fault.LexKind.TheVariants.{OpenParen}
use Rattle.rdata_forms.specs.declared.fault.RdataFault.TheVariants.{BadAddress}
use Rattle.master_read.specs.Directives.{directive_of, origin_directive, ttl_directive}
use Rattle.master_read.specs.Entries.{record_of, owner_of, front_in, one_more, type_said, data_behind, made_of}
use Rattle.master_read.specs.Words.{type_word, class_word, is_some_word}
use Rattle.master_read.specs.ZoneText.{Leaves, no_records, effect_of, with_entry, with_entries, with_rest}
use Rattle.master_read.specs.declared.fault.TextCause.TheVariants.{BadDirective, NoOwner, Rdata as BadData, NoTtl, TooMany, Lex}
use Rattle.master_read.specs.declared.records.Records.{Records}
use Rattle.master_read.proofs.Worked.Words.{context_with, entries_alone, entry, faulty, indented, name, reads, rr, tokens}

-- a record of t. with this line
abbrev ns : ℕ → Rr
ns line = rr (name "t") 60 (Ns (name "ns.t")) line

-- one record was read of so many entries
abbrev one_of : ℕ → Records
one_of seen = record { context = context_with [] None (Some 60) (Some (name "t")); rrs = ns 1 ∷ []; seen = seen; included = 0 }

-- a record counts
a_record : effect_of 3 0 no_records (entry 1 (tokens "t. 60 NS ns.t.")) ≡ Ok (Leaves (one_of 1))
unfolding with_entry effect_of record_of owner_of front_in one_more type_said data_behind made_of type_word class_word is_some_word
a_record = refl

-- a dropped one too
a_dropped_record : effect_of 3 0 (one_of 1) (indented 2 (tokens "RRSIG NS")) ≡ Ok (Leaves (one_of 2))
unfolding with_entry effect_of record_of owner_of front_in one_more type_said data_behind made_of type_word class_word is_some_word
a_dropped_record = refl

-- where there is no room it is one too many, dropped or not
no_room : effect_of 2 0 (one_of 2) (indented 3 (tokens "A 10.0.0.1")) ≡ Err TooMany
unfolding with_entry effect_of record_of owner_of front_in one_more type_said data_behind made_of type_word class_word is_some_word
no_room = refl

no_room_for_a_dropped_record : effect_of 2 0 (one_of 2) (indented 3 (tokens "RRSIG NS")) ≡ Err TooMany
unfolding with_entry effect_of record_of owner_of front_in one_more type_said data_behind made_of type_word class_word is_some_word
no_room_for_a_dropped_record = refl

no_room_at_all : effect_of 0 0 no_records (entry 1 (tokens "t. 60 NS ns.t.")) ≡ Err TooMany
unfolding with_entry effect_of record_of owner_of front_in one_more type_said data_behind made_of type_word class_word is_some_word
no_room_at_all = refl

-- other faults of a record come before the want of room
bad_data_without_room : effect_of 2 0 (one_of 2) (indented 3 (tokens "A 10.0.0.256")) ≡ Err (BadData BadAddress)
unfolding with_entry effect_of record_of owner_of front_in one_more type_said data_behind type_word class_word is_some_word
bad_data_without_room = refl

no_ttl_without_room : effect_of 0 0 no_records (entry 1 (tokens "t. NS ns.t.")) ≡ Err NoTtl
unfolding with_entry effect_of record_of owner_of front_in one_more type_said data_behind made_of type_word class_word is_some_word
no_ttl_without_room = refl

-- a directive takes no room
a_directive_without_room :
    effect_of 0 0 no_records (entry 1 (tokens "$ORIGIN t."))
    ≡ Ok (Leaves (record { context = context_with (name "t") None None None; rrs = []; seen = 0; included = 0 }))
unfolding with_entry effect_of directive_of origin_directive
a_directive_without_room = refl

-- entries, each in the context that those before it leave
abbrev few : List Entry
few =
    entry 1 (tokens "$ORIGIN t.")
    ∷ entry 2 (tokens "@ 60 NS ns")
    ∷ entry 3 (tokens "$TTL 1m")
    ∷ entry 5 (tokens "$ORIGIN a")
    ∷ indented 6 (tokens "RRSIG NS")
    ∷ indented 8 (tokens "7 A 10.0.0.1")
    ∷ entry 9 (tokens "@ A 10.0.0.2")
    ∷ []

-- their records: the owner isn't changed by a directive, and `$TTL` goes before the last stated TTL
abbrev few_records : List Rr
few_records =
    rr (name "t") 60 (Ns (name "ns.t")) 2
    ∷ rr (name "t") 7 (A (10 ∷ 0 ∷ 0 ∷ 1 ∷ [])) 8
    ∷ rr (name "a.t") 60 (A (10 ∷ 0 ∷ 0 ∷ 2 ∷ [])) 9
    ∷ []

in_order : entries_alone [] 4 few None ≡ reads few_records 4
unfolding with_rest with_entries with_entry effect_of record_of owner_of front_in one_more type_said data_behind made_of type_word class_word is_some_word directive_of origin_directive ttl_directive
in_order = refl

-- a second record of one owner has the owner and the stated TTL of the first
two_addresses :
    entries_alone (name "edu") 2 (entry 1 (tokens "VAXA 60 A 10.2.0.27") ∷ indented 2 (tokens "A 128.9.0.33") ∷ []) None
    ≡ reads (rr (name "vaxa.edu") 60 (A (10 ∷ 2 ∷ 0 ∷ 27 ∷ [])) 1 ∷ rr (name "vaxa.edu") 60 (A (128 ∷ 9 ∷ 0 ∷ 33 ∷ [])) 2 ∷ []) 2
unfolding with_rest with_entries with_entry effect_of record_of owner_of front_in one_more type_said data_behind made_of type_word class_word is_some_word
two_addresses = refl

-- the fault of the first entry that has one, at its line
one_too_many : entries_alone [] 3 few None ≡ faulty 9 TooMany
unfolding with_rest with_entries with_entry effect_of record_of owner_of front_in one_more type_said data_behind made_of type_word class_word is_some_word directive_of origin_directive ttl_directive
one_too_many = refl

two_too_many : entries_alone [] 1 few None ≡ faulty 6 TooMany
unfolding with_rest with_entries with_entry effect_of record_of owner_of front_in one_more type_said data_behind made_of type_word class_word is_some_word directive_of origin_directive ttl_directive
two_too_many = refl

-- the fault of a spelling comes behind the entries
behind_the_entries : entries_alone [] 4 few (Some (record { line = 12; kind = OpenParen })) ≡ faulty 12 (Lex OpenParen)
unfolding with_rest with_entries with_entry effect_of record_of owner_of front_in one_more type_said data_behind made_of type_word class_word is_some_word directive_of origin_directive ttl_directive
behind_the_entries = refl

before_the_spelling : entries_alone [] 3 few (Some (record { line = 12; kind = OpenParen })) ≡ faulty 9 TooMany
unfolding with_rest with_entries with_entry effect_of record_of owner_of front_in one_more type_said data_behind made_of type_word class_word is_some_word directive_of origin_directive ttl_directive
before_the_spelling = refl

-- a directive leaves no owner
no_owner_behind_a_directive :
    entries_alone [] 4 (entry 1 (tokens "$ORIGIN t.") ∷ indented 2 (tokens "60 NS ns") ∷ []) None ≡ faulty 2 NoOwner
unfolding with_rest with_entries with_entry effect_of record_of owner_of directive_of origin_directive
no_owner_behind_a_directive = refl

a_bad_directive : entries_alone [] 4 (entry 7 (tokens "$TTL") ∷ []) None ≡ faulty 7 BadDirective
unfolding with_rest with_entries with_entry effect_of directive_of ttl_directive
a_bad_directive = refl

nothing : entries_alone [] 0 [] None ≡ reads [] 0
unfolding with_rest with_entries
nothing = refl
