-- Items in the order of their names, and which of them stands at or above a name.
use Rattle.std.specs.Prelude.{◌≡◌, ℕ, ◌+◌, ◌≤◌, false, List, take, Option, Some}
use Rattle.std.specs.List.{find}
use Rattle.std.specs.Option.{is_some}
use Rattle.dns_data.specs.Name.{Labels, name_eq}

-- the item of this name, the first of several
abbrev pub item_named : {X : Type 0} → (X → Labels) → List X → Labels → Option X
item_named name_of items name = find (λ item. name_eq (name_of item) name) items

module _ {X : Type 0} (item_at : Labels → Option X) (name : Labels) (count : ℕ) where
  -- there is no item at a prefix of the name with so many labels or more, up to the count
  abbrev pub NoneFrom : ℕ → Type 0
  NoneFrom fewer = (k : ℕ) → fewer ≤ k → k ≤ count → is_some (item_at (take k name)) ≡ false

  -- the item is at the longest prefix of the name, of those with at most this count of labels, that has one
  pub record IsAtLongest (item : X) : Type 0 where
    pub labels : ℕ
    pub within : labels ≤ count
    pub there : item_at (take labels name) ≡ Some item
    pub none_longer : NoneFrom (labels + 1)
