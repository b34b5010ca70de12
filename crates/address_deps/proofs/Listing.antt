-- Places that are listed for the names for which they wait.
use Rattle.std.proofs.Common.{◌≡◌, ℕ, ◌+◌, List, [], ◌∷◌, ◌++◌, map, sym, ap, ◌∙◌, subst, inl, inr, Some, arith}
use Rattle.std.specs.Prelude.{Contains, slice_get}
use Rattle.std.proofs.lemmas.Bool.{cases_lt}
use Rattle.std.proofs.lemmas.List.Elements.{Contains-append_cases, Contains-append_left, Contains-append_right}
use denote.Bor.{Bor}
use Rattle.dns_data.specs.Name.{Labels}
use Rattle.dns_data.proofs.Membership.{first_or_later, has_first, none_in_nil}
use Rattle.address_deps.specs.declared.addresses.AddressLearnt.{AddressLearnt}
use Rattle.graph_form.proofs.Paths.{same_item}
use Rattle.dns_data.specs.Listed.{places_of}
use Rattle.zone_lookup.specs.ListedFor.{IsListedFor}
use Rattle.zone_lookup.proofs.TopsHolding.{Places}
use Rattle.address_deps.specs.Dependents.{AreAllPlaces, AreDependents, address_awaits}

-- the names to which references lead
abbrev pub borrowed_names : List (Bor Labels) → List Labels
borrowed_names names = map (λ (name : Bor Labels). name.now) names

-- to list a place for a name for which it is listed already, nothing changes
pub listed_already : (place : ℕ) (name : Labels) (places : Places) → Contains (places_of places name) place → IsListedFor place (name ∷ []) places places
listed_already place name places there other k = (
  (λ has. inl has),
  (λ has. elim has [
    | inl was ↦ was
    | inr (at, among) ↦ elim (first_or_later name [] other among) [
      | inl same ↦ subst (λ (n : Labels). Contains (places_of places n) k) same (subst (Contains (places_of places name)) (sym at) there)
      | inr none ↦ absurd (none_in_nil other none)
    ]
  ]),
)

module _ (addresses : List AddressLearnt) where
  -- where no place is listed for any name, all is listed for the servers before the first, for there are none
  pub no_dependents : (places : Places) → ((name : Labels) → places_of places name ≡ []) → AreDependents addresses 0 places
  no_dependents places none =
      record {
        listed = λ place one within here name awaited. absurd (omega (arith, within));
        within = λ name place has. absurd (none_in_nil place (subst (λ (xs : List ℕ). Contains xs place) (none name) has));
      }

  -- where all is listed for the servers before one, and its place for the names for whose addresses it waits, all is
  -- listed for the servers up to it
  pub more_dependents : (bound : ℕ) (one : AddressLearnt) (old new : Places) → slice_get addresses bound ≡ Some one → AreDependents addresses bound old
      → IsListedFor bound (address_awaits one) old new → AreDependents addresses (bound + 1) new
  more_dependents bound one old new here before put =
      record {
        listed = λ place other within there name awaited. elim (cases_lt place bound) [
          | inl less ↦ (put name place).1 (inl (before.listed place other less there name awaited))
          | inr past ↦
              let same : place ≡ bound = omega (arith, within, past) in
              let is : other ≡ one = same_item (slice_get addresses bound) other one (ap (slice_get addresses) (sym same) ∙ there) here in
              (put name place).1 (inr (same, subst (λ (t : AddressLearnt). Contains (address_awaits t) name) is awaited))
        ];
        within = λ name place has. elim ((put name place).0 has) [
          | inl old_one ↦ (let less = before.within name place old_one in omega (arith, less))
          | inr (at, among) ↦ omega (arith, at)
        ];
      }

-- all places below a bound, and the next one, are all places below the next bound
pub one_place_more : (bound : ℕ) (places : List ℕ) → AreAllPlaces bound places → AreAllPlaces (bound + 1) (places ++ bound ∷ [])
one_place_more bound places all =
    λ place. (
      (λ has. elim (Contains-append_cases places (bound ∷ []) place has) [
        | inl old ↦ (let less = (all place).0 old in omega (arith, less))
        | inr last ↦ elim (first_or_later bound [] place last) [ inl same ↦ omega (arith, same) | inr none ↦ absurd (none_in_nil place none) ]
      ]),
      (λ within. elim (cases_lt place bound) [
        | inl less ↦ Contains-append_left places (bound ∷ []) place ((all place).1 less)
        | inr past ↦
            let same : bound ≡ place = omega (arith, within, past) in
            Contains-append_right places (bound ∷ []) place (subst (Contains (bound ∷ [])) same (has_first bound []))
      ]),
    )
