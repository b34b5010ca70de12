-- Sums of a list, item by item.
use Rattle.std.proofs.Common.{◌≡◌, ℕ, ◌+◌, List, drop, length, ◌<◌, get_or, ap, ◌∙◌}
use Rattle.std.specs.Prelude.{sum_by}
use Rattle.std.proofs.lemmas.List.Sums.{sum_by-cons}
use Rattle.report_json.proofs.Sending.{left_at}

-- the sum from a place on is that of the item there and the sum behind it
pub sum_at : {A : Type 0} (f : A → ℕ) (items : List A) (i : ℕ) (item : A) → i < length items → item ≡ get_or items i item
    → sum_by f (drop i items) ≡ f item + sum_by f (drop (i + 1) items)
sum_at f items i item below is = ap (sum_by f) (left_at items i item below is) ∙ sum_by-cons f item (drop (i + 1) items)
