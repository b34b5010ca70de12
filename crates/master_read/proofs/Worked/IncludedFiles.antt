-- Files that are included.
use Rattle.std.specs.Prelude.{◌≡◌, refl, ℕ, List, [], ◌∷◌, ◌++◌, codes, replicate, Ok, Err, Result}
use Rattle.std.specs.Str.{is_utf8, chars}
use Rattle.dns_data.specs.Name.{Labels}
use Rattle.dns_data.specs.declared.rdata.Rdata.TheVariants.{A}
use Rattle.dns_data.specs.declared.rdata.Rr.{Rr}
use Rattle.rdata_forms.specs.declared.fault.RdataFault.TheVariants.{BadAddress}
use Rattle.master_lex.specs.declared.fault.LexKind.TheVariants.{OpenParen}
use Rattle.master_read.specs.Directives.{directive_of, origin_directive, ttl_directive, include_directive}
use Rattle.master_read.specs.Entries.{record_of, owner_of, front_in, one_more, type_said, data_behind, made_of}
use Rattle.master_read.specs.Words.{type_word, class_word, is_some_word}
use Rattle.master_read.specs.ZoneText.{Unread, Faulty, Asks, effect_of, included, with_entry, with_entries, with_rest, zone_text}
use Rattle.master_read.specs.declared.fault.TextCause.{TextCause}
use Rattle.master_read.specs.declared.fault.TextCause.TheVariants.{NoOwner, Rdata as BadData, TooMany, IncludeDepth, TooManyIncludes, Lex}
use Rattle.master_read.specs.declared.fault.TextFault.TheVariants.{At}
use Rattle.master_read.specs.declared.zone_text.ZoneText.{ZoneText}
use Rattle.master_read.proofs.Worked.Words.{lines, name}

-- what texts under the root give, with room for nine records and three included files
abbrev texts_of : List (List ℕ) → Result ZoneText Unread
texts_of texts = zone_text [] 9 3 texts

-- an address record: its owner, its TTL, the last number of its address, its file and its line
abbrev address : Labels → ℕ → ℕ → ℕ → ℕ → Rr
address owner ttl last file line = record { owner = owner; ttl = ttl; rdata = A (10 ∷ 0 ∷ 0 ∷ last ∷ []); file = file; line = line }

-- texts have these records, as many record entries, and so many files were included
abbrev gives : List Rr → ℕ → ℕ → Result ZoneText Unread
gives rrs seen included = Ok (record { rrs = rrs; seen = seen; included = included })

-- texts have this fault in this file and line
abbrev fails_at : ℕ → ℕ → TextCause → Result ZoneText Unread
fails_at file line cause = Err (Faulty (At file line cause))

-- a file that includes another below `s.t.`, and has a record without an owner behind it
abbrev outer : List ℕ
outer = lines (codes "t. 60 A 10.0.0.1" ∷ codes "$INCLUDE sub.zone s.t." ∷ codes " 60 A 10.0.0.3" ∷ [])

-- the other file is asked for
asks_for_the_file : texts_of (outer ∷ []) ≡ Err (Asks (codes "sub.zone"))
unfolding zone_text with_rest with_entries with_entry effect_of included record_of owner_of front_in one_more type_said data_behind made_of type_word class_word is_some_word directive_of include_directive is_utf8 chars lib.Utf8.encode
asks_for_the_file = refl

-- behind it the owner is the one before it
owner_behind_a_file :
    texts_of (outer ∷ codes "www 60 A 10.0.0.2" ∷ [])
    ≡ gives (address (name "t") 60 1 0 1 ∷ address (name "www.s.t") 60 2 1 1 ∷ address (name "t") 60 3 0 3 ∷ []) 3 1
unfolding zone_text with_rest with_entries with_entry effect_of included record_of owner_of front_in one_more type_said data_behind made_of type_word class_word is_some_word directive_of include_directive is_utf8 chars lib.Utf8.encode
owner_behind_a_file = refl

-- texts behind those of the files that are opened don't count
texts_behind :
    texts_of (outer ∷ codes "www 60 A 10.0.0.2" ∷ codes ")" ∷ [])
    ≡ gives (address (name "t") 60 1 0 1 ∷ address (name "www.s.t") 60 2 1 1 ∷ address (name "t") 60 3 0 3 ∷ []) 3 1
unfolding zone_text with_rest with_entries with_entry effect_of included record_of owner_of front_in one_more type_said data_behind made_of type_word class_word is_some_word directive_of include_directive is_utf8 chars lib.Utf8.encode
texts_behind = refl

-- a fault in it has its number and its line
fault_in_a_file : texts_of (outer ∷ lines (codes "www 60 A 10.0.0.2" ∷ codes "x 60 A 10.0.0.256" ∷ []) ∷ []) ≡ fails_at 1 2 (BadData BadAddress)
unfolding zone_text with_rest with_entries with_entry effect_of included record_of owner_of front_in one_more type_said data_behind made_of type_word class_word is_some_word directive_of include_directive is_utf8 chars lib.Utf8.encode
fault_in_a_file = refl

-- the fault of a spelling at an included file's end has the file's number
spelling_in_a_file : texts_of (outer ∷ codes "www 60 A ( 10.0.0.2" ∷ []) ≡ fails_at 1 1 (Lex OpenParen)
unfolding zone_text with_rest with_entries with_entry effect_of included record_of owner_of front_in one_more type_said data_behind made_of type_word class_word is_some_word directive_of include_directive is_utf8 chars lib.Utf8.encode
spelling_in_a_file = refl

-- the last owner goes into it, and where there was none before it, there is none behind it
owner_in_a_file :
    texts_of (outer ∷ codes " 60 A 10.0.0.2" ∷ [])
    ≡ gives (address (name "t") 60 1 0 1 ∷ address (name "t") 60 2 1 1 ∷ address (name "t") 60 3 0 3 ∷ []) 3 1
unfolding zone_text with_rest with_entries with_entry effect_of included record_of owner_of front_in one_more type_said data_behind made_of type_word class_word is_some_word directive_of include_directive is_utf8 chars lib.Utf8.encode
owner_in_a_file = refl

no_owner_behind_a_file : texts_of (codes "$INCLUDE sub.zone\n A 10.0.0.1" ∷ codes "www. 60 A 10.0.0.2" ∷ []) ≡ fails_at 0 2 NoOwner
unfolding zone_text with_rest with_entries with_entry effect_of included record_of owner_of front_in one_more type_said data_behind made_of type_word class_word is_some_word directive_of include_directive is_utf8 chars lib.Utf8.encode
no_owner_behind_a_file = refl

-- both TTLs stay as it left them, and its origin doesn't
ttls_behind_a_file :
    texts_of (codes "$INCLUDE sub.zone\nx A 10.0.0.1" ∷ lines (codes "$ORIGIN s." ∷ codes "$TTL 5" ∷ codes "www 7 A 10.0.0.2" ∷ []) ∷ [])
    ≡ gives (address (name "www.s") 7 2 1 3 ∷ address (name "x") 5 1 0 2 ∷ []) 2 1
unfolding zone_text with_rest with_entries with_entry effect_of included record_of owner_of front_in one_more type_said data_behind made_of type_word class_word is_some_word directive_of include_directive origin_directive ttl_directive is_utf8 chars lib.Utf8.encode
ttls_behind_a_file = refl

stated_ttl_behind_a_file :
    texts_of (codes "$INCLUDE sub.zone\nx A 10.0.0.1" ∷ codes "www 7 A 10.0.0.2" ∷ [])
    ≡ gives (address (name "www") 7 2 1 1 ∷ address (name "x") 7 1 0 2 ∷ []) 2 1
unfolding zone_text with_rest with_entries with_entry effect_of included record_of owner_of front_in one_more type_said data_behind made_of type_word class_word is_some_word directive_of include_directive is_utf8 chars lib.Utf8.encode
stated_ttl_behind_a_file = refl

-- files have numbers in the order in which they are opened
order_of_opening :
    texts_of
    (lines (codes "$INCLUDE a" ∷ codes "$INCLUDE c" ∷ codes "x. 1 A 10.0.0.4" ∷ []) ∷ lines (codes "$INCLUDE b" ∷ codes "x. 1 A 10.0.0.2" ∷ []) ∷ codes "x. 1 A 10.0.0.1" ∷ codes "x. 1 A 10.0.0.3" ∷ [])
    ≡ gives (address (name "x") 1 1 2 1 ∷ address (name "x") 1 2 1 2 ∷ address (name "x") 1 3 3 1 ∷ address (name "x") 1 4 0 3 ∷ []) 4 3
unfolding zone_text with_rest with_entries with_entry effect_of included record_of owner_of front_in one_more type_said data_behind made_of type_word class_word is_some_word directive_of include_directive is_utf8 chars lib.Utf8.encode
order_of_opening = refl

-- eight levels may lie below a zone's file, and no ninth
abbrev itself : List ℕ
itself = codes "$INCLUDE sub.zone"

eight_levels : zone_text [] 0 9 (replicate 8 itself ++ [] ∷ []) ≡ gives [] 0 8
unfolding zone_text with_rest with_entries with_entry effect_of included directive_of include_directive is_utf8 chars lib.Utf8.encode
eight_levels = refl

nine_levels : zone_text [] 0 9 (replicate 9 itself) ≡ fails_at 8 1 IncludeDepth
unfolding zone_text with_rest with_entries with_entry effect_of included directive_of include_directive is_utf8 chars lib.Utf8.encode
nine_levels = refl

-- one file more than may be included, and first the faults of the depth
one_too_many : zone_text [] 0 1 (lines (itself ∷ itself ∷ []) ∷ [] ∷ []) ≡ fails_at 0 2 TooManyIncludes
unfolding zone_text with_rest with_entries with_entry effect_of included directive_of include_directive is_utf8 chars lib.Utf8.encode
one_too_many = refl

too_deep_and_too_many : zone_text [] 0 8 (replicate 9 itself) ≡ fails_at 8 1 IncludeDepth
unfolding zone_text with_rest with_entries with_entry effect_of included directive_of include_directive is_utf8 chars lib.Utf8.encode
too_deep_and_too_many = refl

-- the room is that of all files together
room_of_all : zone_text [] 2 1 (outer ∷ codes "www 60 RRSIG x" ∷ []) ≡ fails_at 0 3 TooMany
unfolding zone_text with_rest with_entries with_entry effect_of included record_of owner_of front_in one_more type_said data_behind made_of type_word class_word is_some_word directive_of include_directive is_utf8 chars lib.Utf8.encode
room_of_all = refl
