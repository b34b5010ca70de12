-- What the numbers below a number give in turn.
use Rattle.std.proofs.Common.{◌≡◌, ℕ, zero, suc, ◌+◌, List, [], ◌∷◌, ◌++◌, flat_map, map, append-nil, append_assoc, sym, ap, ◌∙◌, arith, refl}
use Rattle.std.specs.List.{range_with_len}
use Rattle.std.proofs.lemmas.Grind.{flat_map-append}
use Rattle.std.proofs.lemmas.List.{map-append}
use Rattle.io_edges.specs.MemoryFiles.{FilesInMemory, with_file}
use Rattle.zone_maker.specs.Drill.{with_files}

-- one number more stands at the end
range_suc : (a n : ℕ) → range_with_len a (suc n) ≡ range_with_len a n ++ (a + n) ∷ []
range_suc a zero = ap (λ k. k ∷ []) (let e : a ≡ a + 0 = omega arith in e)
range_suc a (suc n) =
    ap (λ l. a ∷ l)
    (range_suc (a + 1) n
    ∙ ap (λ k. range_with_len (a + 1) n ++ k ∷ []) (let e : (a + 1) + n ≡ a + suc n = omega arith in e))

range_more : (n : ℕ) → range_with_len 0 (n + 1) ≡ range_with_len 0 n ++ n ∷ []
range_more n = ap (range_with_len 0) (let e : n + 1 ≡ suc n = omega arith in e) ∙ range_suc 0 n
    ∙ ap (λ k. range_with_len 0 n ++ k ∷ []) (let e : 0 + n ≡ n = omega arith in e)

-- what numbers give in a row, with one more, is followed by what that one gives
pub gives_more : (f : ℕ → List ℕ) (begin : List ℕ) (n : ℕ)
    → begin ++ flat_map f (range_with_len 0 (n + 1)) ≡ (begin ++ flat_map f (range_with_len 0 n)) ++ f n
gives_more f begin n =
    ap (λ l. begin ++ flat_map f l) (range_more n)
    ∙ ap (λ l. begin ++ l) (flat_map-append f (range_with_len 0 n) (n ∷ []) ∙ ap (λ l. flat_map f (range_with_len 0 n) ++ l) (append-nil (f n)))
    ∙ sym (append_assoc begin (flat_map f (range_with_len 0 n)) (f n))

-- files put in behind others
with_both : (files : FilesInMemory) (first rest : List (List ℕ × List ℕ)) → with_files files (first ++ rest) ≡ with_files (with_files files first) rest
with_both files [] rest = refl
with_both files ((name, text) ∷ first) rest = with_both (with_file files name text) first rest

-- putting in the files of so many numbers and one more is putting in the files of so many, and then that of the one
pub files_more : (files : FilesInMemory) (f : ℕ → List ℕ × List ℕ) (n : ℕ)
    → with_files files (map f (range_with_len 0 (n + 1))) ≡ with_files (with_files files (map f (range_with_len 0 n))) (f n ∷ [])
files_more files f n =
    ap (λ l. with_files files (map f l)) (range_more n)
    ∙ ap (with_files files) (map-append f (range_with_len 0 n) (n ∷ []))
    ∙ with_both files (map f (range_with_len 0 n)) (f n ∷ [])
