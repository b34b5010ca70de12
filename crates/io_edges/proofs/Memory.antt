-- Files in memory after a change at one name.
use Rattle.std.proofs.Common.{◌≡◌, ℕ, ◌≤◌, true, false, cond, List, Some, None, Option, Result, Ok, Err, OnOk, OnErr, refl, subst, sym, ap, ◌∙◌, arith, ◌+◌, is_none, nat_lt, if◌then◌else◌, inl, inr}
use Rattle.std.specs.Option.{option_map, option_map_or}
use Rattle.std.specs.Ordering.{nat_cmp, is_eq}
use Rattle.std.specs.Cmp.{eq_by_cmp_equiv}
use Rattle.std.specs.Cmp.Lexicographic.{slice_cmp, nat_list_cmp_total}
use Rattle.std.specs.FinMap as map
use Rattle.std.specs.declared.cmp.Ordering.{Ordering}
use Rattle.std.specs.declared.cmp.Ordering.TheVariants.{Less, Equal, Greater}
use Rattle.std.proofs.lemmas.Bool.Decides.{nat_tests}
use Rattle.io_edges.specs.Counts.{last_count, risen, Rose, NoneFell}
use Rattle.io_edges.specs.Files.{all_told}
use Rattle.io_edges.specs.MemoryFiles.{Stored, FileMap, FilesInMemory, octets_at, told_by, failed_once_more, failures_of, with_file, next_fails, after_failure, after_call}

-- what relates each file to itself, and the file of one name to another, relates the files at each name to those after the
-- other was put there
pub at_change : (P : Option Stored → Option Stored → Type 0) → ((o : Option Stored) → P o o) → (files : FileMap) (name : List ℕ) (file : Stored) → P (map.get files name) (Some file) → (other : List ℕ) → P (map.get files other) (map.get (map.insert files name file) other)
at_change P same files name file here other =
    subst (P (map.get files other)) (sym (map.get-insert nat_list_cmp_total files name file other)) (by_order (slice_cmp nat_cmp other name) refl)
  where
    by_order : (order : Ordering) → slice_cmp nat_cmp other name ≡ order → P (map.get files other) (cond (is_eq order) (Some file) (map.get files other))
    by_order Less e = same _
    by_order Equal e = subst (λ o. P o (Some file)) (map.get_tied nat_list_cmp_total files other name e) here
    by_order Greater e = same _

-- a file is put under a name, with the count that the name had: no count changes
pub failures_of-with_file : (m : FilesInMemory) (name octets other : List ℕ) → failures_of (with_file m name octets) other ≡ failures_of m other
failures_of-with_file m name octets other =
    sym (at_change (λ old new. option_map_or (λ file. file.failures) old m.absent ≡ option_map_or (λ file. file.failures) new m.absent) (λ o. refl) m.files name _ refl other)

-- no count of failures changes, whether a file was put under a name or memory ran out
pub failures_of-added : {T E : Type 0} (r : Result T E) (old new : FilesInMemory) (name octets : List ℕ) → OnOk r (new ≡ with_file old name octets) → OnErr r (new ≡ old) → (other : List ℕ) → failures_of new other ≡ failures_of old other
failures_of-added (Ok _) old new name octets put kept other = ap (λ m. failures_of m other) put ∙ failures_of-with_file old name octets other
failures_of-added (Err _) old new name octets put kept other = ap (λ m. failures_of m other) kept

octets_at-failed : (files : FileMap) (name : List ℕ) (o : Option Stored) → map.get files name ≡ o → (other : List ℕ) → octets_at (failed_once_more files name o) other ≡ octets_at files other
octets_at-failed files name None e other = refl
octets_at-failed files name (Some file) e other =
    sym (at_change (λ old new. option_map (λ file. file.octets) old ≡ option_map (λ file. file.octets) new) (λ o. refl) files name _ (ap (option_map (λ file. file.octets)) e) other)

-- a failure changes nothing that is told
pub told_by-after_failure : (m new : FilesInMemory) (name : List ℕ) → new ≡ after_failure m name → told_by new ≡ told_by m
told_by-after_failure m new name e =
    ap told_by e ∙ λ i other. all_told (octets_at-failed m.files name (map.get m.files name) refl other i)

-- a call changes nothing that is told
pub told_by-after_call : (m new : FilesInMemory) (name : List ℕ) → new ≡ after_call m name → told_by new ≡ told_by m
told_by-after_call m new name e =
    let counted : FilesInMemory = record m { calls = risen m.calls } in
    ap told_by e
    ∙ elim (next_fails m name) as (λ b. told_by (if b then after_failure counted name else counted) ≡ told_by m) [ true ↦ told_by-after_failure counted _ name refl | false ↦ refl ]

one_more-le : (count : ℕ) → count ≤ risen count
one_more-le count = grind (arith, nat_tests)

-- after one more, a count rose
pub Rose-one_more : (count : ℕ) → Rose count (risen count)
Rose-one_more count = elim (nat_lt count last_count) as (λ b. nat_lt count last_count ≡ b → Rose count (if b then count + 1 else count)) [ true ↦ λ e. inl (omega arith) | false ↦ λ e. inr (grind (arith, nat_tests)) ] refl

not_below : (absent : ℕ) (files : FileMap) (name : List ℕ) (o : Option Stored) → map.get files name ≡ o → (other : List ℕ) → option_map_or (λ file. file.failures) (map.get files other) absent ≤ option_map_or (λ file. file.failures) (map.get (failed_once_more files name o) other) (if is_none o then risen absent else absent)
not_below absent files name None e other = larger (map.get files other)
  where
    larger : (o : Option Stored) → option_map_or (λ file. file.failures) o absent ≤ option_map_or (λ file. file.failures) o (risen absent)
    larger None = one_more-le absent
    larger (Some file) = omega arith
not_below absent files name (Some file) e other =
    at_change (λ old new. option_map_or (λ file. file.failures) old absent ≤ option_map_or (λ file. file.failures) new absent) (λ o. omega arith) files name _
    (subst (λ o. option_map_or (λ file. file.failures) o absent ≤ risen file.failures) (sym e) (one_more-le file.failures)) other

-- a failure lets no count fall
pub NoneFell-after_failure : (m new : FilesInMemory) (name : List ℕ) → new ≡ after_failure m name → NoneFell (failures_of m) (failures_of new)
NoneFell-after_failure m new name e other = subst (λ after. failures_of m other ≤ failures_of after other) (sym e) (not_below m.absent m.files name (map.get m.files name) refl other)

rose-here : (absent : ℕ) (files : FileMap) (name : List ℕ) (o : Option Stored) → map.get files name ≡ o → Rose (option_map_or (λ file. file.failures) o absent) (option_map_or (λ file. file.failures) (map.get (failed_once_more files name o) name) (if is_none o then risen absent else absent))
rose-here absent files name None e = subst (λ o. Rose absent (option_map_or (λ file. file.failures) o (risen absent))) (sym e) (Rose-one_more absent)
rose-here absent files name (Some file) e =
    let put : Stored = record { octets = file.octets; failures = risen file.failures } in
    let got = map.get-insert nat_list_cmp_total files name put name ∙ ap (λ b. cond b (Some put) (map.get files name)) ((eq_by_cmp_equiv nat_list_cmp_total).refl name) in
    subst (λ o. Rose file.failures (option_map_or (λ file. file.failures) o absent)) (sym got) (Rose-one_more file.failures)

-- a failure raises the count of its name
pub Rose-after_failure : (m new : FilesInMemory) (name : List ℕ) → new ≡ after_failure m name → Rose (failures_of m name) (failures_of new name)
Rose-after_failure m new name e =
    subst (λ after. Rose (failures_of m name) (failures_of after name)) (sym e) (rose-here m.absent m.files name (map.get m.files name) refl)
