-- Pieces between separators.
use Rattle.std.proofs.Common.{◌≡◌, ℕ, ◌+◌, ◌<◌, Bool, true, false, suc, Bor, List, [], ◌∷◌, length, get_or, take, drop, ltb, Option, Some, None, refl, ap, sym, ◌∙◌, ◌⊎◌, inl, inr, arith}
use Rattle.std.specs.List.{slice_split, onto_first, position, position_or_len}
use Rattle.std.specs.Prelude.{◌==◌}
use Rattle.std.specs.Option.{is_some, option_map_or}
use Rattle.std.proofs.lemmas.Bool.{cases_Bool, cond-true, ltb-true, ltb-false}
use Rattle.std.proofs.lemmas.Option.{cond_some}
use Rattle.std.proofs.lemmas.List.Splits.{slice_split-cons_no, slice_split_first, length-slice_split}
use Rattle.std.proofs.lemmas.List.Sums.{fails_before_first}
use Rattle.rdata_forms.specs.Addresses.{split_on}

-- without a separator there is one piece
split-lacks : (p : ℕ → Bool) (text : List ℕ) → ((k : ℕ) → k < length text → p (get_or text k 0) ≡ false) → slice_split p text ≡ text ∷ []
split-lacks p [] h = refl
split-lacks p (x ∷ xs) h = slice_split-cons_no p x xs (h 0 (omega arith)) ∙ ap (onto_first x) (split-lacks p xs (λ k lt. h (suc k) (omega arith)))

-- the first piece ends at the first separator
pub split-at : (separator : ℕ) (text : List ℕ) (at : ℕ) → Some at ≡ position (λ octet. octet == separator) text → split_on separator text ≡ take at text ∷ split_on separator (drop (at + 1) text)
split-at separator text at h =
    let p : ℕ → Bool = λ octet. octet == separator in
    let parts = cond_some (ltb (position_or_len p text) (length text)) (position_or_len p text) at (sym h) in
    let lt = ltb-true (position_or_len p text) (length text) parts.0 in
    slice_split_first p text 0 lt ∙ ap (λ (n : ℕ). take n text ∷ slice_split p (drop (n + 1) text)) parts.1

-- without a separator the text is the only piece
pub split-none : (separator : ℕ) (text : List ℕ) → None ≡ position (λ octet. octet == separator) text → split_on separator text ≡ text ∷ []
split-none separator text h = by_test (cases_Bool (ltb (position_or_len (λ octet. octet == separator) text) (length text))) where
  by_test : (ltb (position_or_len (λ octet. octet == separator) text) (length text) ≡ true) ⊎ (ltb (position_or_len (λ octet. octet == separator) text) (length text) ≡ false) → split_on separator text ≡ text ∷ []
  by_test (inl inside) =
      let bad : None ≡ Some (position_or_len (λ octet. octet == separator) text) = h ∙ cond-true (ltb (position_or_len (λ octet. octet == separator) text) (length text)) _ _ inside in
      cc
  by_test (inr outside) =
      let ge = ltb-false (position_or_len (λ octet. octet == separator) text) (length text) outside in
      split-lacks (λ octet. octet == separator) text (λ k lt. fails_before_first (λ octet. octet == separator) text k 0 (omega arith))

-- a text has at least one piece
pub split-some : (separator : ℕ) (text : List ℕ) → 0 < length (split_on separator text)
split-some separator text = omega (arith, length-slice_split (λ octet. octet == separator) text)

-- what is left of a text, if anything is, has at least one piece
pub pieces_behind : (separator : ℕ) (rest : Option (Bor (List ℕ))) → is_some rest ≡ true → 0 < length (option_map_or (λ text. split_on separator text.now) rest [])
pieces_behind separator None h = cc
pieces_behind separator (Some text) h = split-some separator text.now
