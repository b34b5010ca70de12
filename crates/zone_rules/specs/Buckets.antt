-- Buckets, into which items fall by their numbers: for the contracts of the code's searches alone.
use Rattle.std.specs.Prelude.{◌≡◌, Bool, true, false, ◌||◌, ℕ, ◌*◌, ◌/◌, ◌%◌, ◌^◌, List, length, map, slice_index_or}
use Rattle.std.specs.List.{All, AllPairs, filter}
use Rattle.zone_rules.specs.declared.buckets.Bucket.{Bucket}
use Rattle.zone_rules.specs.declared.buckets.Bucket.TheVariants.{Empty, Shared, Taken, Contested}

-- what is in a bucket with one item more, which has to stand alone or may stand beside others
abbrev pub bucket_with : Bucket → Bool → Bucket
bucket_with Empty true = Taken
bucket_with Empty false = Shared
bucket_with Shared true = Contested
bucket_with Shared false = Shared
bucket_with Taken is_alone = Contested
bucket_with Contested is_alone = Contested

-- something fell into the bucket
abbrev pub is_used : Bucket → Bool
is_used Empty = false
is_used Shared = true
is_used Taken = true
is_used Contested = true

-- an item fell in that has to stand alone
abbrev pub has_lone_item : Bucket → Bool
has_lone_item Empty = false
has_lone_item Shared = false
has_lone_item Taken = true
has_lone_item Contested = true

-- an item fell in that has to stand alone, and another one
abbrev pub is_contested : Bucket → Bool
is_contested Empty = false
is_contested Shared = false
is_contested Taken = false
is_contested Contested = true

-- where the bucket for this number of 64 bits stands: the rows of numbers for each bucket are equally long
abbrev pub bucket_place : List Bucket → ℕ → ℕ
bucket_place buckets number = number / 2 ^ 32 * length buckets / 2 ^ 32

-- the bucket for this number
abbrev pub bucket_of : List Bucket → ℕ → Bucket
bucket_of buckets number = slice_index_or buckets (bucket_place buckets number) Empty

-- an item with this number may have a rival in its bucket
abbrev pub has_rival : List Bucket → ℕ → Bool
has_rival buckets number = is_contested (bucket_of buckets number)

-- items with these numbers were put in, of which each has to stand alone or may stand beside others
pub record Marked (buckets : List Bucket) (keys : List (ℕ × Bool)) : Type 0 where
  pub used : All (λ key. is_used (bucket_of buckets key.0) ≡ true) keys
  pub taken : All (λ key. key.1 ≡ true → has_lone_item (bucket_of buckets key.0) ≡ true) keys
  pub contested : AllPairs (λ a b. a.0 ≡ b.0 → (a.1 || b.1) ≡ true → has_rival buckets b.0 ≡ true) keys

-- the lower half of a number of 64 bits, in the place of the upper one
abbrev pub lower_half : ℕ → ℕ
lower_half number = number * 2 ^ 32 % 2 ^ 64

-- a key by the lower half of its number
abbrev pub lower_key : ℕ × Bool → ℕ × Bool
lower_key key = (lower_half key.0, key.1)

-- the keys by the lower halves of their numbers, of the items alone that may have a rival
abbrev pub lower_keys : (ℕ → Bool) → List (ℕ × Bool) → List (ℕ × Bool)
lower_keys may keys = map lower_key (filter (λ key. may key.0) keys)

-- the test says of two items with one number, one of which has to stand alone, that they may be rivals
abbrev pub TellsRivals : (ℕ → Bool) → List (ℕ × Bool) → Type 0
TellsRivals may keys = AllPairs (λ a b. a.0 ≡ b.0 → (a.1 || b.1) ≡ true → may b.0 ≡ true) keys

-- for each key it is said whether an item with it may have a rival, by its number alone
abbrev pub SaysRivals : List Bool → List (ℕ × Bool) → Type 0
SaysRivals said keys = (may : ℕ → Bool) × (said ≡ map (λ key. may key.0) keys) × TellsRivals may keys
