-- Names in order, with each the one a label above it.
use Rattle.std.specs.Prelude.{◌≡◌, ℕ, ◌-◌, ◌<◌, ◌≤◌, true, false, List, [], ◌∷◌, ◌++◌, length, slice_index_or, Contains}
use Rattle.std.specs.Ordering.{is_gt}
use Rattle.std.specs.declared.cmp.Ordering.TheVariants.{Less}
use Rattle.dns_data.specs.Name.{Labels, name_cmp, is_prefix, AreInOrder}

-- the name at a place
abbrev pub name_at : List Labels → ℕ → Labels
name_at names place = slice_index_or names place []

-- the names are in order, and the first is above the others; with each name that has a label below the first, the name one
-- label above it is among them
pub record IsTable (names : List Labels) : Type 0 where
  pub ordered : AreInOrder names
  pub some : 0 < length names
  pub below : (k : ℕ) → k < length names → is_prefix (name_at names 0) (name_at names k) ≡ true
  pub parents : (above : Labels) (label : List ℕ) → is_prefix (name_at names 0) above ≡ true → Contains names (above ++ label ∷ []) → Contains names above

-- the name at the other place is that at the first with a label below
pub record IsNextBelow (names : List Labels) (place other : ℕ) : Type 0 where
  pub within : place < length names
  pub inside : other < length names
  pub label : List ℕ
  pub is : name_at names other ≡ name_at names place ++ label ∷ []

-- the name at the place doesn't stand behind the name, and those at later places do
pub record IsLastUpTo (names : List Labels) (name : Labels) (place : ℕ) : Type 0 where
  pub within : place < length names
  pub up_to : is_gt (name_cmp (name_at names place) name) ≡ false
  pub behind : (later : ℕ) → place < later → later < length names → name_cmp name (name_at names later) ≡ Less

-- ---- the contracts of inner calls alone cite what follows

-- the first name stands below the second
pub record IsStrictlyBelow (name above : Labels) : Type 0 where
  pub first : List ℕ
  pub rest : Labels
  pub is : name ≡ above ++ first ∷ rest

-- the name before the end is at or below that at the place, and the one at the end isn't
pub record IsEnd (names : List Labels) (place end : ℕ) : Type 0 where
  pub behind : place < end
  pub within : end ≤ length names
  pub inside : is_prefix (name_at names place) (name_at names (end - 1)) ≡ true
  pub outside : end < length names → is_prefix (name_at names place) (name_at names end) ≡ false
