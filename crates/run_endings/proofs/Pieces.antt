-- A sink that took, or passed on, pieces and then a front of the next one did so with a front of them all.
use Rattle.std.proofs.Common.{◌≡◌, ◌≢◌, ◌∙◌, ℕ, suc, List, [], ◌∷◌, ◌++◌, Option, take, drop, sym, ap, refl, append_assoc, inl, inr, arith}
use Rattle.std.specs.Prelude.{◌≤◌, OnErr, Result, Ok, Err}
use Rattle.std.specs.List.{flat_map}
use Rattle.std.specs.Io.KnownBytes.{Appends}
use Rattle.std.proofs.KnownBytes.{Appends-trans}
use Rattle.std.proofs.lemmas.Grind.{flat_map-append}
use Rattle.std.proofs.lemmas.List.{take-append-drop}
use Rattle.io_edges.specs.Counts.{Rose}
use Rattle.io_edges.specs.Passed.{PassedFront}
use Rattle.io_edges.proofs.Passing.{further_passed}
use Rattle.run_endings.specs.Writing.{TookProperFront}

-- octets behind some aren't nothing
some_behind : (some more : List ℕ) → some ≢ [] → some ++ more ≢ []
some_behind [] more left = λ none. left refl
some_behind (octet ∷ some) more left = λ none. cc

-- the octets of the pieces are those of the ones so far, of the next one, and of the rest
pub next_of_pieces : (pieces : List (List ℕ)) (i : ℕ) (piece : List ℕ) → drop i pieces ≡ piece ∷ drop (suc i) pieces
    → flat_map (λ one. one) pieces ≡ flat_map (λ one. one) (take i pieces) ++ (piece ++ flat_map (λ one. one) (drop (suc i) pieces))
next_of_pieces pieces i piece next =
    ap (flat_map (λ one. one)) (sym (take-append-drop i pieces) ∙ ap (λ rest. take i pieces ++ rest) next)
    ∙ flat_map-append (λ one. one) (take i pieces) (piece ∷ drop (suc i) pieces)

-- where the sink took the pieces so far and a proper front of the next one
pub front_of_pieces : (pieces : List (List ℕ)) (i : ℕ) (piece : List ℕ) → drop i pieces ≡ piece ∷ drop (suc i) pieces
    → (before mid after : Option (List ℕ)) → Appends before mid (flat_map (λ one. one) (take i pieces)) → TookProperFront mid after piece
    → TookProperFront before after (flat_map (λ one. one) pieces)
front_of_pieces pieces i piece next before mid after taken front =
    let rest = flat_map (λ one. one) (drop (suc i) pieces) in
    let done = flat_map (λ one. one) (take i pieces) in
    record {
      front = done ++ front.front;
      rest = front.rest ++ rest;
      splits =
          next_of_pieces pieces i piece next
          ∙ ap (λ (octets : List ℕ). done ++ (octets ++ rest)) front.splits
          ∙ ap (λ (octets : List ℕ). done ++ octets) (append_assoc front.front front.rest rest)
          ∙ sym (append_assoc done front.front (front.rest ++ rest));
      some_left = some_behind front.rest rest front.some_left;
      taken = Appends-trans before mid after done front.front taken front.taken;
    }

-- a front of octets is one of these octets and more
front_with_more : (a b : Option (List ℕ)) (octets more : List ℕ) → PassedFront a b octets → PassedFront a b (octets ++ more)
front_with_more a b octets more passed = record {
  front = passed.front;
  rest = passed.rest ++ more;
  splits = ap (λ r. r ++ more) passed.splits ∙ append_assoc passed.front passed.rest more;
  passed = passed.passed;
}

-- where the sink passed on the pieces so far and a front of the next one
pub passed_of_pieces : (pieces : List (List ℕ)) (i : ℕ) (piece : List ℕ) → drop i pieces ≡ piece ∷ drop (suc i) pieces
    → (before mid after : Option (List ℕ)) → Appends before mid (flat_map (λ one. one) (take i pieces)) → PassedFront mid after piece
    → PassedFront before after (flat_map (λ one. one) pieces)
passed_of_pieces pieces i piece next before mid after passed front =
    let rest = flat_map (λ one. one) (drop (suc i) pieces) in
    further_passed before mid after (flat_map (λ one. one) (take i pieces)) (piece ++ rest) (flat_map (λ one. one) pieces) (next_of_pieces pieces i piece next) passed
    (front_with_more mid after piece rest front)

-- what is so is so where a call fails
pub on_err : {T E P : Type 0} (result : Result T E) → P → OnErr result P
on_err (Ok value) is = tt
on_err (Err fault) is = is

-- a count that didn't fall and then rose has risen
pub still_rose : (before mid after : ℕ) → before ≤ mid → Rose mid after → Rose before after
still_rose before mid after never (inl rose) = inl (omega (arith, never, rose))
still_rose before mid after never (inr last) = inr last
