-- What is told of a disk's files after one of them was kept.
use Rattle.std.proofs.Common.{◌≡◌, ◌⊎◌, ℕ, false, cond, List, Some, None, Option, is_some, Result, Ok, Err, OnOk, OnErr, refl, subst, sym, ap, ◌∙◌, inl, inr}
use Rattle.std.specs.Option.{option_map}
use Rattle.std.specs.Ordering.{nat_cmp, is_eq}
use Rattle.std.specs.Cmp.Lexicographic.{slice_cmp, nat_list_cmp_total}
use Rattle.std.specs.FinMap as map
use Rattle.std.specs.declared.cmp.Ordering.{Ordering}
use Rattle.std.specs.declared.cmp.Ordering.TheVariants.{Less, Equal, Greater}
use Rattle.std.proofs.lemmas.Map.Lookups.{exact_bytes}
use Rattle.io_edges.specs.DiskFiles.{told_of_read}
use Rattle.io_edges.specs.Files.{Told, Untold, StaysTold, SameElsewhere, read_told}
use Rattle.io_edges.specs.MemoryFiles.{Stored, FileMap, with_octets}
use Rattle.io_edges.proofs.Memory.{at_change}

-- what isn't some is none
pub not_some : {A : Type 0} (o : Option A) → is_some o ≡ false → o ≡ None
not_some None e = refl
not_some (Some x) e = absurd cc

-- a file that is put under a new name takes nothing back
StaysTold-put : (files : FileMap) (name octets : List ℕ) (failures : ℕ) → map.get files name ≡ None → StaysTold (told_of_read files) (told_of_read (with_octets files name octets failures))
StaysTold-put files name octets failures none other =
    let told : Option Stored → Told = λ o. read_told (option_map (λ file. file.octets) o) in
    at_change (λ old new. (told old ≡ Untold) ⊎ (told new ≡ told old)) (λ o. inr refl) files name _ (inl (ap told none)) other

-- a file that is put under a name changes no other name
SameElsewhere-put : (files : FileMap) (name octets : List ℕ) (failures : ℕ) → SameElsewhere name (told_of_read files) (told_of_read (with_octets files name octets failures))
SameElsewhere-put files name octets failures other apart =
    ap (λ o. read_told (option_map (λ file. file.octets) o)) (map.get-insert nat_list_cmp_total files name _ other ∙ by_order (slice_cmp nat_cmp other name) refl)
  where
    by_order : (order : Ordering) → slice_cmp nat_cmp other name ≡ order → cond (is_eq order) (Some (record { octets = octets; failures = failures })) (map.get files other) ≡ map.get files other
    by_order Less e = refl
    by_order Equal e = absurd (apart (exact_bytes other name e))
    by_order Greater e = refl

-- what was told stays told, whether a file was put under a new name or memory ran out
pub StaysTold-placed : {T E : Type 0} (r : Result T E) (old new : FileMap) (name octets : List ℕ) (failures : ℕ) → map.get old name ≡ None → OnOk r (new ≡ with_octets old name octets failures) → OnErr r (new ≡ old) → StaysTold (told_of_read old) (told_of_read new)
StaysTold-placed (Ok _) old new name octets failures none put kept =
    subst (λ after. StaysTold (told_of_read old) (told_of_read after)) (sym put) (StaysTold-put old name octets failures none)
StaysTold-placed (Err _) old new name octets failures none put kept =
    λ other. inr (ap (λ after. told_of_read after other) kept)

-- of each other name the same is told, whether octets were put under a name or memory ran out
pub SameElsewhere-placed : {T E : Type 0} (r : Result T E) (old new : FileMap) (name octets : List ℕ) (failures : ℕ) → OnOk r (new ≡ with_octets old name octets failures) → OnErr r (new ≡ old) → SameElsewhere name (told_of_read old) (told_of_read new)
SameElsewhere-placed (Ok _) old new name octets failures put kept =
    subst (λ after. SameElsewhere name (told_of_read old) (told_of_read after)) (sym put) (SameElsewhere-put old name octets failures)
SameElsewhere-placed (Err _) old new name octets failures put kept =
    λ other apart. ap (λ after. told_of_read after other) kept
