-- Searches of a table by words.
use Rattle.std.proofs.Common.{◌≡◌, ℕ, Bool, true, false, cond, List, [], ◌∷◌, map, Option, Some, None, option_map, Bor, refl, sym, ap, ◌∙◌}
use Rattle.std.specs.List.{find}
use Rattle.dns_data.specs.Octet.{is_word}
use Rattle.kept_data.specs.Numbers.{number_of_word}

-- what a search finds among what items give is what the item gives that a search finds
find_map : {A B : Type 0} (f : A → B) (test : B → Bool) (xs : List A) → find test (map f xs) ≡ option_map f (find (λ x. test (f x)) xs)
find_map f test [] = refl
find_map f test (x ∷ xs) = by (test (f x)) (find_map f test xs) where
  by : (b : Bool) → find test (map f xs) ≡ option_map f (find (λ y. test (f y)) xs)
      → cond b (Some (f x)) (find test (map f xs)) ≡ option_map f (cond b (Some x) (find (λ y. test (f y)) xs))
  by true rest = refl
  by false rest = rest

-- the number beside a word in a table is that of its entry
pub number_in_entry : {N : Type 0} (table : List (Bor (List ℕ) × N)) (octets : List ℕ) (entry : Option (Bor (List ℕ) × N))
    → entry ≡ find (λ one. is_word one.0.now octets) table
    → option_map (λ (one : Bor (List ℕ) × N). one.1) entry ≡ number_of_word (map (λ one. (one.0.now, one.1)) table) octets
unfolding number_of_word
number_in_entry {N} table octets entry is =
    ap (option_map (λ one. one.1)) is
    ∙ beside (find (λ one. is_word one.0.now octets) table)
    ∙ ap (option_map (λ one. one.1)) (sym (find_map (λ one. (one.0.now, one.1)) (λ one. is_word one.0 octets) table))
  where
    beside : (found : Option (Bor (List ℕ) × N)) → option_map (λ one. one.1) found ≡ option_map (λ (one : List ℕ × N). one.1) (option_map (λ (one : Bor (List ℕ) × N). (one.0.now, one.1)) found)
    beside None = refl
    beside (Some one) = refl
