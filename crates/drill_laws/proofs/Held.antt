-- The files of a drill are held under their names.
use Rattle.std.proofs.Common.{◌≡◌, ◌≢◌, ℕ, zero, suc, ◌+◌, ◌<◌, ◌≤◌, Bool, true, false, cond, nat_eq, List, [], ◌∷◌, ◌++◌, map, codes, decimal, Option, Some, inl, inr, refl, sym, ap, ◌∙◌, arith, subst}
use Rattle.std.specs.List.{AllByRecursion, range_with_len}
use Rattle.std.specs.Option.{option_map}
use Rattle.std.specs.Cmp.Lexicographic.{pointwise, nat_list_cmp_total, texts_ties, bytes_decides}
use Rattle.std.specs.FinMap as finite
use Rattle.std.proofs.lemmas.Bool.{cases_eq, false_from_ne_true}
use Rattle.std.proofs.lemmas.Fmt.{decimal_injective}
use Rattle.std.proofs.lemmas.List.{append_cancel_right}
use Rattle.io_edges.specs.Files.{Holds, all_told}
use Rattle.io_edges.specs.MemoryFiles.{Stored, FilesInMemory, octets_at, failures_of, no_files, with_file}
use Rattle.zone_maker.specs.Drill.{zone_numbers, meta_text, root_text, made_zone_text, zone_file, with_files, drill}
use Rattle.zone_maker.specs.Source.{held, drill_told}

-- ---- files that are put in, one after the other

-- the octets under a name, behind a file that is put in
behind_file : (files : FilesInMemory) (name text query : List ℕ) (b : Bool) → pointwise nat_eq query name ≡ b
    → octets_at (with_file files name text).files query ≡ cond b (Some text) (octets_at files.files query)
behind_file files name text query b is =
    let stored : Stored = record { octets = text; failures = failures_of files name } in
    ap (option_map (λ (file : Stored). file.octets)) (finite.get-insert nat_list_cmp_total files.files name stored query)
    ∙ ap (λ (same : Bool). option_map (λ (file : Stored). file.octets) (cond same (Some stored) (finite.get files.files query))) (sym (texts_ties query name) ∙ is)
    ∙ by b
  where
    by : (b : Bool) → option_map (λ (file : Stored). file.octets) (cond b (Some (record { octets = text; failures = failures_of files name })) (finite.get files.files query)) ≡ cond b (Some text) (octets_at files.files query)
    by true = refl
    by false = refl

-- no file has the name
abbrev HasNone : List ℕ → List (List ℕ × List ℕ) → Type 0
HasNone query files = AllByRecursion (λ file. pointwise nat_eq query file.0 ≡ false) files

behind_others : (files : FilesInMemory) (others : List (List ℕ × List ℕ)) (query : List ℕ) → HasNone query others → octets_at (with_files files others).files query ≡ octets_at files.files query
behind_others files [] query none = refl
behind_others files ((name, text) ∷ others) query none =
    behind_others (with_file files name text) others query none.1
    ∙ behind_file files name text query false none.0

-- a file that no later one replaces
put_last : (files : FilesInMemory) (name text : List ℕ) (others : List (List ℕ × List ℕ)) → HasNone name others
    → octets_at (with_files (with_file files name text) others).files name ≡ Some text
put_last files name text others none =
    behind_others (with_file files name text) others name none
    ∙ behind_file files name text name true ((bytes_decides name name).1 refl)

-- ---- the files of a drill

zone_file_apart : (i j : ℕ) → i ≢ j → i < 10000 → j < 10000 → pointwise nat_eq (zone_file i) (zone_file j) ≡ false
zone_file_apart i j apart p q =
    false_from_ne_true _ (λ e.
    let same : zone_file i ≡ zone_file j = (bytes_decides (zone_file i) (zone_file j)).0 e in
    let tails : decimal i ++ codes ".zone" ≡ decimal j ++ codes ".zone" = cc in
    absurd (apart (decimal_injective i j (omega arith) (omega arith) (append_cancel_right (decimal i) (decimal j) (codes ".zone") tails))))

module _ (n : ℕ) where
  abbrev made : ℕ → List ℕ × List ℕ
  made i = (zone_file i, made_zone_text n i)

  none_made : (query : List ℕ) (a k : ℕ) → ((i : ℕ) → a ≤ i → i < a + k → pointwise nat_eq query (zone_file i) ≡ false) → HasNone query (map made (range_with_len a k))
  none_made query a zero apart = tt
  none_made query a (suc k) apart =
      (apart a (omega arith) (omega arith), none_made query (a + 1) k (λ i above below. apart i (omega arith) (omega arith)))

  zone_there : (files : FilesInMemory) (i a k : ℕ) → a ≤ i → i < a + k → a + k ≤ 10000 → octets_at (with_files files (map made (range_with_len a k))).files (zone_file i) ≡ Some (made_zone_text n i)
  zone_there files i a zero above below fits = absurd (omega arith)
  zone_there files i a (suc k) above below fits =
      elim (cases_eq a i) [
        | inl same ↦ (
            let none : HasNone (zone_file a) (map made (range_with_len (a + 1) k)) =
            none_made (zone_file a) (a + 1) k (λ j behind before. zone_file_apart a j (λ e. omega arith) (omega arith) (omega arith)) in
            subst (λ (j : ℕ). octets_at (with_files files (map made (range_with_len a (suc k)))).files (zone_file j) ≡ Some (made_zone_text n j)) same
            (put_last files (zone_file a) (made_zone_text n a) (map made (range_with_len (a + 1) k)) none))
        | inr other ↦ zone_there (with_file files (zone_file a) (made_zone_text n a)) i (a + 1) k (omega arith) (omega arith) (omega arith)
      ]

  abbrev zones : List (List ℕ × List ℕ)
  zones = map made (zone_numbers n)

  abbrev meta_put : FilesInMemory
  meta_put = with_file (no_files []) (codes "meta.json") (meta_text n)

  -- what is told of a name under which octets are held
  told_there : (name text : List ℕ) → octets_at (drill n).files name ≡ Some text → drill_told n name ≡ Holds text
  told_there name text there = ap (λ (octets : Option (List ℕ)). held (all_told octets)) there

  -- under the metadata's name its text is held
  pub meta_told : drill_told n (codes "meta.json") ≡ Holds (meta_text n)
  meta_told = told_there (codes "meta.json") (meta_text n)
      (put_last (no_files []) (codes "meta.json") (meta_text n) ((codes "root.zone", root_text n) ∷ zones)
      (refl, none_made (codes "meta.json") 0 n (λ i above below. refl)))

  -- under the name of the root zone's file its text is held
  pub root_told : drill_told n (codes "root.zone") ≡ Holds (root_text n)
  root_told = told_there (codes "root.zone") (root_text n)
      (put_last meta_put (codes "root.zone") (root_text n) zones
      (none_made (codes "root.zone") 0 n (λ i above below. refl)))

  -- under the name of each zone's file its text is held
  pub zone_told : (i : ℕ) → i < n → n ≤ 5000 → drill_told n (zone_file i) ≡ Holds (made_zone_text n i)
  zone_told i within few = told_there (zone_file i) (made_zone_text n i)
      (zone_there (with_file meta_put (codes "root.zone") (root_text n)) i 0 n (omega arith) (omega arith) (omega arith))
