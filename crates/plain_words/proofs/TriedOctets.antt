-- The rank of an octet is its place among those that are tried first, or is above them by its value.
use Rattle.std.proofs.Common.{◌≡◌, ◌∙◌, ◌↔◌, ℕ, zero, suc, ◌+◌, ◌<◌, ◌≤◌, Bool, true, ◌&&◌, List, [], ◌∷◌, Contains, Some, refl, sym, ap, inl, inr, arith}
use Rattle.std.specs.Prelude.{◌==◌, slice_get, get_or}
use Rattle.std.specs.declared.cmp.Ordering.TheVariants.{Equal}
use Rattle.std.specs.Ordering.{nat_cmp, ordering_then}
use Rattle.std.proofs.lemmas.Bool.{and_parts, cases_lt, eqb-true}
use Rattle.std.proofs.lemmas.Bool.Decides.{nat_tests}
use Rattle.std.proofs.lemmas.Cmp.{tied_itself, nat_cmp_total}
use Rattle.std.proofs.lemmas.Option.{slice_get-get_or, get_or_from_slice_get}
use Rattle.net_model.specs.Class.{octet_rank}
use Rattle.net_model.proofs.TrialOrder.{exact_trials}
use Rattle.plain_words.specs.Tried.{tried_first, IsTriedBefore}

-- the ranks of the octets are the numbers from the first on
abbrev are_ranked : List ℕ → ℕ → Bool
are_ranked [] first = true
are_ranked (octet ∷ octets) first = (octet_rank octet == first) && are_ranked octets (suc first)

-- so the rank of each is its place
rank_at : (octets : List ℕ) (first : ℕ) → are_ranked octets first ≡ true → (i octet : ℕ) → slice_get octets i ≡ Some octet → octet_rank octet ≡ first + i
rank_at [] first ranked i octet is = cc
rank_at (x ∷ octets) first ranked zero octet is =
    let same : x ≡ octet = cc in
    let rank : octet_rank x ≡ first = eqb-true (octet_rank x) first (and_parts (octet_rank x == first) (are_ranked octets (suc first)) ranked).0 in
    ap octet_rank (sym same) ∙ rank ∙ (let e : first ≡ first + 0 = omega arith in e)
rank_at (x ∷ octets) first ranked (suc i) octet is =
    rank_at octets (suc first) (and_parts (octet_rank x == first) (are_ranked octets (suc first)) ranked).1 i octet is
    ∙ (let e : suc first + i ≡ first + suc i = omega arith in e)

-- the octets that are tried first have the ranks from 0 on
place_is_rank : (i octet : ℕ) → slice_get tried_first i ≡ Some octet → octet_rank octet ≡ i
place_is_rank i octet is = rank_at tried_first 0 refl i octet is ∙ (let e : 0 + i ≡ i = omega arith in e)

-- octets of one rank are one
one_octet : (a b : ℕ) → octet_rank a ≡ octet_rank b → a ≡ b
one_octet a b same =
    let tie : nat_cmp (octet_rank a) (octet_rank b) ≡ Equal = ap (nat_cmp (octet_rank a)) (sym same) ∙ tied_itself nat_cmp_total (octet_rank a) in
    let labels : a ∷ [] ≡ b ∷ [] = exact_trials (a ∷ []) (b ∷ []) (ap (λ o. ordering_then o Equal) tie) in
    cc

-- an octet of a rank that one of them has stands at its place
at_its_rank : (octet : ℕ) → octet_rank octet < 38 → slice_get tried_first (octet_rank octet) ≡ Some octet
at_its_rank octet below =
    let there : slice_get tried_first (octet_rank octet) ≡ Some (get_or tried_first (octet_rank octet) 0) = slice_get-get_or tried_first (octet_rank octet) 0 below in
    there ∙ ap (λ (x : ℕ). Some x) (one_octet (get_or tried_first (octet_rank octet) 0) octet (place_is_rank (octet_rank octet) (get_or tried_first (octet_rank octet) 0) there))

-- an octet is tried first exactly if its rank is one of theirs
first_by_rank : (octet : ℕ) → octet_rank octet < 38 → Contains tried_first octet
first_by_rank octet below = (octet_rank octet, below, get_or_from_slice_get tried_first (octet_rank octet) octet octet (at_its_rank octet below))

rank_of_first : (octet : ℕ) → Contains tried_first octet → octet_rank octet < 38
rank_of_first octet (i, within, is) =
    let rank : octet_rank octet ≡ i = place_is_rank i octet (slice_get-get_or tried_first i octet within ∙ ap (λ (x : ℕ). Some x) is) in
    let few : i < 38 = within in
    omega (arith, rank, few)

-- the rank of any other lies above theirs by its value
rank_of_other : (octet : ℕ) → 38 ≤ octet_rank octet → octet_rank octet ≡ octet + 38
rank_of_other octet above = grind (arith, nat_tests, above)

not_first : (octet : ℕ) → 38 ≤ octet_rank octet → Contains tried_first octet → ⊥
not_first octet above has = let below = rank_of_first octet has in absurd (omega (arith, above, below))

other_rank : (octet : ℕ) → (Contains tried_first octet → ⊥) → octet_rank octet ≡ octet + 38
other_rank octet not =
    elim (cases_lt (octet_rank octet) 38) [
      | inl below ↦ absurd (not (first_by_rank octet below))
      | inr above ↦ rank_of_other octet above
    ]

-- an octet has a lower rank than another exactly if it is tried before it
pub tried_by_rank : (one other : ℕ) → (octet_rank one < octet_rank other) ↔ IsTriedBefore one other
tried_by_rank one other = (
  λ less. elim (cases_lt (octet_rank one) 38) [
    | inl first ↦ elim (cases_lt (octet_rank other) 38) [
      | inl second ↦ inl (octet_rank one, octet_rank other, less, at_its_rank one first, at_its_rank other second)
      | inr above ↦ inr (inl (first_by_rank one first, not_first other above))
    ]
    | inr above ↦ (
        let second : 38 ≤ octet_rank other = omega (arith, less, above) in
        let rank = rank_of_other one above in
        let rank_other = rank_of_other other second in
        inr (inr (not_first one above, not_first other second, omega (arith, less, rank, rank_other))))
  ],
  λ before. elim before [
    | inl stands ↦ (
        let rank = place_is_rank stands.0 one stands.3 in
        let rank_other = place_is_rank stands.1 other stands.4 in
        omega (arith, rank, rank_other, stands.2))
    | inr behind ↦ elim behind [
      | inl apart ↦ (
          let below = rank_of_first one apart.0 in
          let rank_other = other_rank other apart.1 in
          omega (arith, below, rank_other))
      | inr values ↦ (
          let rank = other_rank one values.0 in
          let rank_other = other_rank other values.1 in
          omega (arith, rank, rank_other, values.2))
    ]
  ],
)
