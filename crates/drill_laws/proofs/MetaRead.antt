-- The metadata of a drill read: the top server, and a row for each zone.
use Rattle.std.proofs.Common.{◌≡◌, ℕ, zero, suc, ◌+◌, ◌<◌, ◌≤◌, Bool, false, List, [], ◌∷◌, map, length, codes, decimal, Option, Some, None, Result, Ok, Err, if◌then◌else◌, ok_or, nat_lt, refl, ap, ◌∙◌, arith}
use Rattle.std.specs.List.{range_with_len}
use Rattle.std.proofs.lemmas.Bool.Decides.{nat_tests}
use Rattle.serde_json.specs.Data.{Data}
use Rattle.dns_data.specs.Answers.{◌>>=◌, with_fault}
use Rattle.dns_data.specs.Name.{Labels}
use Rattle.dns_data.specs.Spelling.{name_of_text}
use Rattle.dns_data.specs.declared.fault.NameFault.{NameFault}
use Rattle.dns_data.proofs.RoundTrip.{not_empty}
use Rattle.meta_read.specs.Members.{values_of}
use Rattle.meta_read.specs.Metadata.{metadata_in, metadata_within, first_unhosted, unless_unhosted}
use Rattle.meta_read.specs.Names.{each}
use Rattle.meta_read.specs.Rows.{read_row}
use Rattle.meta_read.specs.declared.fault.MetaFault.{MetaFault}
use Rattle.meta_read.specs.declared.fault.MetaFault.TheVariants.{NotJson, Shape, BadName, TooManyRows}
use Rattle.meta_read.specs.declared.meta.Meta.{Meta}
use Rattle.meta_read.specs.declared.meta.MetaRow.{MetaRow}
use Rattle.zone_maker.specs.Drill.{zone_numbers, meta_text, zone_file}
use Rattle.drill_laws.proofs.Names.{host_name, host_named, ns_host}
use Rattle.drill_laws.proofs.Parts.{number_of}
use Rattle.drill_laws.proofs.MetaValue.{server_text, row_value, root_value, row_items, meta_value, meta_value_of}

-- the row of a zone, and that of the root zone
abbrev pub zone_row : ℕ → MetaRow
zone_row i = record { file = zone_file i; server = host_name (codes "ns") (decimal i); origin = None }

-- the name of the top server, a.top.
abbrev pub top : Labels
top = codes "top" ∷ codes "a" ∷ []

-- the metadata's row of the root zone
abbrev pub root_row : MetaRow
root_row = record { file = codes "root.zone"; server = top; origin = None }

-- the metadata that a drill's metadata file reads as
abbrev pub drill_meta : ℕ → Meta
drill_meta n = record { tops = top ∷ []; rows = root_row ∷ map zone_row (zone_numbers n) }

row_reads : (number i : ℕ) → i < 10000 → read_row number (row_value i) ≡ Ok (zone_row i)
row_reads number i small =
    ap (λ (empty : Bool). ok_or (if empty then None else Some (zone_file i)) (Shape number) >>= (λ file. with_fault (λ fault. BadName number) (name_of_text (server_text i) []) >>= (λ server. Ok (record { file = file; server = server; origin = None })))) (not_empty (length (zone_file i)) (omega arith))
    ∙ ap (λ (said : Result Labels NameFault). with_fault (λ fault. BadName number) said >>= (λ server. Ok (record { file = zone_file i; server = server; origin = None }))) (host_named (codes "ns") (decimal i) ns_host (number_of i small))

rows_read : (a k number : ℕ) → a + k ≤ 10000 → each read_row number (values_of (row_items (range_with_len a k))) ≡ Ok (map zone_row (range_with_len a k))
rows_read a zero number fits = refl
rows_read a (suc k) number fits =
    ap (λ (said : Result MetaRow MetaFault). said >>= (λ first. each read_row (number + 1) (values_of (row_items (range_with_len (a + 1) k))) >>= (λ rest. Ok (first ∷ rest)))) (row_reads number a (omega arith))
    ∙ ap (λ (said : Result (List MetaRow) MetaFault). said >>= (λ rest. Ok (zone_row a ∷ rest))) (rows_read (a + 1) k (number + 1) (omega arith))

values_count : (a k : ℕ) → length (values_of (row_items (range_with_len a k))) ≡ k
values_count a zero = refl
values_count a (suc k) = ap suc (values_count (a + 1) k)

value_reads : (most n : ℕ) → 10000 ≤ most → n ≤ 5000 → metadata_in most (meta_value n) ≡ Ok (drill_meta n)
value_reads most n enough few =
    let values = root_value ∷ values_of (row_items (zone_numbers n)) in
    let few_enough : nat_lt most (length values) ≡ false = let count = values_count 0 n in grind (arith, nat_tests) in
    ap (λ (many : Bool). (if many then Err TooManyRows else each read_row 1 values) >>= (λ rows. unless_unhosted (first_unhosted (top ∷ []) rows) (record { tops = top ∷ []; rows = rows }))) few_enough
    ∙ ap (λ (said : Result (List MetaRow) MetaFault). (said >>= (λ rest. Ok (root_row ∷ rest))) >>= (λ rows. unless_unhosted (first_unhosted (top ∷ []) rows) (record { tops = top ∷ []; rows = rows }))) (rows_read 0 n 2 (omega arith))

-- the metadata's octets give the top server and the rows
pub meta_given : (most n : ℕ) → 10000 ≤ most → n ≤ 5000 → metadata_within most (meta_text n) ≡ Ok (drill_meta n)
meta_given most n enough few = ap (λ (value : Option Data). ok_or value NotJson >>= metadata_in most) (meta_value_of n few) ∙ value_reads most n enough few
