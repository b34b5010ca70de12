-- The last of names in order that doesn't stand behind another, as a search leaves it.
use Rattle.std.proofs.Common.{◌≡◌, ℕ, ◌-◌, ◌<◌, ◌≤◌, List, [], length, get_or, Err, Less, Equal, Greater, is_gt, sym, ap, ◌∙◌, subst, inl, inr, true≢false, arith}
use Rattle.std.specs.List.Sorted.{IsBinarySearchResult, IsPartitionPoint}
use Rattle.std.specs.Ordering.{ordering_reverse}
use Rattle.std.proofs.lemmas.Bool.{cases_lt}
use Rattle.std.proofs.lemmas.List.Sorted.{searchable_from_sorted}
use Rattle.dns_data.specs.Name.{Labels, name_cmp, AreInOrder}
use Rattle.dns_data.proofs.NameOrder.{UpTo, Before, names_total}
use Rattle.dns_data.proofs.Names.{same_names}
use Rattle.name_table.specs.Table.{IsLastUpTo}
use Rattle.name_table.proofs.SearchedNames.{rises}

-- a name that ties with another, or stands before it, doesn't stand behind it
up_to_tied : (a b : Labels) → name_cmp a b ≡ Equal → UpTo a b
up_to_tied a b e = ap is_gt e

up_to_less : (a b : Labels) → Before a b → UpTo a b
up_to_less a b e = ap is_gt e

-- a name stands before those that stand behind it
turned_round : (a b : Labels) → name_cmp a b ≡ Greater → Before b a
turned_round a b e = names_total.antisymm b a ∙ ap ordering_reverse e

module _ (names : List Labels) (name : Labels) (ordered : AreInOrder names) where
  -- a name that is found at a place stands at the last place up to it
  pub last_found : (place : ℕ) → place < length names → name_cmp (get_or names place []) name ≡ Equal → IsLastUpTo names name place
  last_found place within tied = record {
    within = within;
    up_to = up_to_tied (get_or names place []) name tied;
    behind = λ later behind below.
        subst (λ (x : Labels). Before x (get_or names later [])) (same_names (get_or names place []) name tied) (ordered place later [] behind below);
  }

  module _ (place : ℕ) (some : 0 < length names) (first : UpTo (get_or names 0 []) name) (in_range : place ≤ length names)
      (holds : IsBinarySearchResult (λ (other : Labels). name_cmp other name) names (Err place)) where
    parts : IsPartitionPoint (λ (x : Labels). name_cmp x name ≡ Less) (λ (x : Labels). name_cmp x name ≡ Greater) names place
    parts = holds (searchable_from_sorted names_total (λ (x : Labels). x) names name (rises names ordered))

    -- where the first name doesn't stand behind the searched one, a search ends behind the first
    pub not_first : 1 ≤ place
    not_first = elim (cases_lt 0 place) [
      | inl lower ↦ omega (arith, lower)
      | inr none ↦ absurd (true≢false (sym (ap is_gt (parts.1 0 [] none some)) ∙ first))
    ]

    -- the name before the place where a search ends is the last that doesn't stand behind the searched one
    pub last_before : IsLastUpTo names name (place - 1)
    last_before = record {
      within = omega (arith, not_first, in_range);
      up_to = up_to_less (get_or names (place - 1) []) name (parts.0 (place - 1) [] (omega arith) (omega (arith, not_first)));
      behind = λ later behind below. turned_round (get_or names later []) name (parts.1 later [] (omega (arith, not_first, behind)) below);
    }
