-- The order of a list by the places of its elements.
use Rattle.std.specs.Prelude.{◌≡◌, ℕ, List, length, Some, slice_get}
use Rattle.std.specs.List.{range_with_len}
use Rattle.std.specs.List.Sorted.{IsPermutation}

-- the numbers are the places of a list of so many elements, each once, in some order
abbrev pub ArePermutedPlaces : ℕ → List ℕ → Type 0
ArePermutedPlaces count places = IsPermutation (range_with_len 0 count) places

-- there is a rank for each place, and it says where the place stands among the places
pub record AreRanks (places ranks : List ℕ) : Type 0 where
  pub many : length ranks ≡ length places
  pub each : (rank place : ℕ) → slice_get places rank ≡ Some place → slice_get ranks place ≡ Some rank
