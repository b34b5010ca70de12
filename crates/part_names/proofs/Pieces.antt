-- The first line of a text.
use Rattle.std.proofs.Common.{◌≡◌, ℕ, ◌+◌, ◌<◌, Bool, true, false, suc, List, [], ◌∷◌, length, get_or, take, drop, ltb, Some, None, refl, ap, sym, ◌∙◌, ◌⊎◌, inl, inr, arith}
use Rattle.std.specs.List.{slice_split, onto_first, position, position_or_len}
use Rattle.std.specs.Prelude.{◌==◌}
use Rattle.std.proofs.lemmas.Bool.{cases_Bool, cond-true, ltb-true, ltb-false}
use Rattle.std.proofs.lemmas.Option.{cond_some}
use Rattle.std.proofs.lemmas.List.Splits.{slice_split-cons_no, slice_split_first}
use Rattle.std.proofs.lemmas.List.Sums.{fails_before_first}
use Rattle.part_names.specs.PartNames.{lines_of}

-- the first line ends at the first line feed
pub lines-at : (text : List ℕ) (at : ℕ) → Some at ≡ position (λ octet. octet == 10) text → lines_of text ≡ take at text ∷ lines_of (drop (at + 1) text)
lines-at text at h =
    let p : ℕ → Bool = λ octet. octet == 10 in
    let parts = cond_some (ltb (position_or_len p text) (length text)) (position_or_len p text) at (sym h) in
    let lt = ltb-true (position_or_len p text) (length text) parts.0 in
    slice_split_first p text 0 lt ∙ ap (λ (n : ℕ). take n text ∷ slice_split p (drop (n + 1) text)) parts.1

-- a text that passes no test is one piece
split-lacks : (p : ℕ → Bool) (text : List ℕ) → ((k : ℕ) → k < length text → p (get_or text k 0) ≡ false) → slice_split p text ≡ text ∷ []
split-lacks p [] h = refl
split-lacks p (x ∷ xs) h = slice_split-cons_no p x xs (h 0 (omega arith)) ∙ ap (onto_first x) (split-lacks p xs (λ k lt. h (suc k) (omega arith)))

-- without a line feed the text is the only line
pub lines-none : (text : List ℕ) → None ≡ position (λ octet. octet == 10) text → lines_of text ≡ text ∷ []
lines-none text h = by_test (cases_Bool (ltb (position_or_len (λ octet. octet == 10) text) (length text))) where
  by_test : (ltb (position_or_len (λ octet. octet == 10) text) (length text) ≡ true) ⊎ (ltb (position_or_len (λ octet. octet == 10) text) (length text) ≡ false) → lines_of text ≡ text ∷ []
  by_test (inl inside) =
      let bad : None ≡ Some (position_or_len (λ octet. octet == 10) text) = h ∙ cond-true (ltb (position_or_len (λ octet. octet == 10) text) (length text)) _ _ inside in
      cc
  by_test (inr outside) =
      let ge = ltb-false (position_or_len (λ octet. octet == 10) text) (length text) outside in
      split-lacks (λ octet. octet == 10) text (λ k lt. fails_before_first (λ octet. octet == 10) text k 0 (omega arith))
