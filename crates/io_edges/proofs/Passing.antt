-- What is passed on of a piece, in one call or in several.
use Rattle.std.proofs.Common.{◌≡◌, ℕ, List, [], ◌++◌, refl, ap, sym, ◌∙◌, append_assoc, take, drop}
use Rattle.std.proofs.KnownBytes.{Appends-kept, Appends-nil, Appends-trans}
use Rattle.std.proofs.lemmas.List.{take-append-drop}
use Rattle.std.specs.Prelude.{Option, Result, Ok, Err}
use Rattle.std.specs.Io.KnownBytes.{Appends, Keeps, WriteAppends}
use Rattle.io_edges.specs.Passed.{PassedFront}

-- of octets of which nothing is passed on, the empty front is
pub none_passed : (a b : Option (List ℕ)) (octets : List ℕ) → Keeps a b → PassedFront a b octets
none_passed a b octets keeps = record { front = []; rest = octets; splits = refl; passed = Appends-kept a a b [] (Appends-nil a) keeps }

-- the first so many octets are a front
pub first_passed : (a b : Option (List ℕ)) (count : ℕ) (octets : List ℕ) → Appends a b (take count octets) → PassedFront a b octets
first_passed a b count octets appends = record { front = take count octets; rest = drop count octets; splits = sym (take-append-drop count octets); passed = appends }

-- what a write passed on is a front, also where it failed
pub written_front : {E : Type 0} (a b : Option (List ℕ)) (written : Result ℕ E) (octets : List ℕ) → WriteAppends a b written octets → PassedFront a b octets
written_front a b (Ok count) octets appends = first_passed a b count octets appends
written_front a b (Err error) octets keeps = none_passed a b octets keeps

-- a front that was passed on stays so while the known octets are kept
pub kept_front : (a b c : Option (List ℕ)) (octets : List ℕ) → PassedFront a b octets → Keeps b c → PassedFront a c octets
kept_front a b c octets passed keeps = record {
  front = passed.front;
  rest = passed.rest;
  splits = passed.splits;
  passed = Appends-kept a b c passed.front passed.passed keeps;
}

-- a front of what is left after a front makes a front with it
pub further_passed : (a b c : Option (List ℕ)) (front rest text : List ℕ) → text ≡ front ++ rest → Appends a b front → PassedFront b c rest → PassedFront a c text
further_passed a b c front rest text splits appends further = record {
  front = front ++ further.front;
  rest = further.rest;
  splits = splits ∙ (ap (λ r. front ++ r) further.splits ∙ sym (append_assoc front further.front further.rest));
  passed = Appends-trans a b c front further.front appends further.passed;
}
