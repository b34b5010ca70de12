-- Items that no earlier one equals, by those that came before.
use Rattle.std.proofs.Common.{◌≡◌, ℕ, ◌+◌, ◌<◌, Bool, not, ◌||◌, List, [], ◌∷◌, ◌++◌, length, take, drop, get_or, ap, sym, ◌∙◌, add-one, append_assoc}
use Rattle.std.proofs.Math.Seq.{drop-cons}
use Rattle.std.proofs.lemmas.List.{take_more}
use Rattle.std.proofs.lemmas.List.Folds.{list_any_more}
use Rattle.std.specs.List.{list_any}
use Rattle.dns_data.specs.First.{are_first_behind}

module _ {A : Type 0} (eq : A → A → Bool) (items : List A) (i : ℕ) (item : A) where
  -- whether the next item is a first one is answered by the items before it, and then the others follow
  pub first-next : i < length items → item ≡ get_or items i item → are_first_behind eq (take i items) (drop i items) ≡ not (list_any (eq item) (take i items)) ∷ are_first_behind eq (take (i + 1) items) (drop (i + 1) items)
  first-next below is =
      ap (are_first_behind eq (take i items)) (drop-cons items i item below ∙ (λ j. sym is j ∷ drop (sym (add-one i) j) items))
      ∙ ap (λ front. not (list_any (eq item) (take i items)) ∷ are_first_behind eq front (drop (i + 1) items)) (sym (take_more items i item below ∙ (λ j. take i items ++ sym is j ∷ [])))

  -- the answers for the items so far, with that of the next, are the answers for the items up to it
  pub first-more : (firsts next : List Bool) (said : Bool) → i < length items → item ≡ get_or items i item → said ≡ not (list_any (eq item) (take i items)) → next ≡ firsts ++ said ∷ [] → firsts ++ are_first_behind eq (take i items) (drop i items) ≡ next ++ are_first_behind eq (take (i + 1) items) (drop (i + 1) items)
  first-more firsts next said below is says pushed =
      ap (λ rest. firsts ++ rest) (first-next below is)
      ∙ (λ j. firsts ++ sym says j ∷ are_first_behind eq (take (i + 1) items) (drop (i + 1) items))
      ∙ sym (append_assoc firsts (said ∷ []) (are_first_behind eq (take (i + 1) items) (drop (i + 1) items)))
      ∙ ap (λ front. front ++ are_first_behind eq (take (i + 1) items) (drop (i + 1) items)) (sym pushed)

-- some item up to the next passes a test if one before passes it or the next does
pub any-next : {A : Type 0} (test : A → Bool) (items : List A) (i : ℕ) (item : A) (old : Bool) → i < length items → item ≡ get_or items i item → old ≡ list_any test (take i items) → (old || test item) ≡ list_any test (take (i + 1) items)
any-next test items i item old below is said =
    (λ j. said j || test (is j)) ∙ sym (list_any_more test items i item below)
