-- Which names are newly among others, as these are passed over one after the other.
use Rattle.std.proofs.Common.{◌≡◌, ◌⊎◌, ◌∙◌, ℕ, ◌+◌, ◌<◌, Bool, true, false, ◌||◌, List, [], ◌∷◌, ◌++◌, take, length, get_or, Contains, refl, sym, ap, subst, inl, inr}
use Rattle.std.proofs.lemmas.Bool.{or_cases, or_left, or_right}
use Rattle.std.proofs.lemmas.List.{take_more}
use Rattle.std.proofs.lemmas.List.Elements.{Contains-get_or}
use Rattle.std.proofs.lemmas.List.Folds.{list_any-append}
use Rattle.dns_data.specs.Name.{Labels, is_among, name_eq}
use Rattle.dns_data.proofs.Searches.{any_has}
use Rattle.plain_resolver.specs.KnownNames.{IsPartOf}

-- a name is among those with one more if it is among them or is that one
among_one : (names : List Labels) (last name : Labels) → is_among (names ++ last ∷ []) name ≡ (is_among names name || (name_eq name last || false))
among_one names last name = list_any-append (name_eq name) names (last ∷ [])

one_is : (name last : Labels) → (name_eq name last || false) ≡ true → name_eq name last ≡ true
one_is name last = by (name_eq name last) where
  by : (b : Bool) → (b || false) ≡ true → b ≡ true
  by true e = refl
  by false e = e

-- it is among those with one more if it is among them
among_left : (names : List Labels) (last name : Labels) → is_among names name ≡ true → is_among (names ++ last ∷ []) name ≡ true
among_left names last name is = among_one names last name ∙ or_left (is_among names name) (name_eq name last || false) is

-- it is among those with one more if it is that one
among_last : (names : List Labels) (last name : Labels) → name_eq name last ≡ true → is_among (names ++ last ∷ []) name ≡ true
among_last names last name is =
    among_one names last name ∙ or_right (is_among names name) (name_eq name last || false) (or_left (name_eq name last) false is)

among_cases : (names : List Labels) (last name : Labels) → is_among (names ++ last ∷ []) name ≡ true → (is_among names name ≡ true) ⊎ (name_eq name last ≡ true)
among_cases names last name is =
    elim (or_cases (is_among names name) (name_eq name last || false) (sym (among_one names last name) ∙ is)) [
      | inl before ↦ inl before
      | inr here ↦ inr (one_is name last here)
    ]

module _ (before names newly : List Labels) (met index : ℕ) (name : Labels) (within : index < length names) (is : name ≡ get_or names index name)
    (part : IsPartOf (take met before) (take index names))
    (either : (other : Labels) → is_among (take index names) other ≡ true → (is_among before other ≡ true) ⊎ (is_among newly other ≡ true)) where
  one_more : take (index + 1) names ≡ take index names ++ name ∷ []
  one_more = take_more names index name within ∙ ap (λ (n : Labels). take index names ++ n ∷ []) (sym is)

  in_more : (other : Labels) → is_among (take index names ++ name ∷ []) other ≡ true → is_among (take (index + 1) names) other ≡ true
  in_more other = subst (λ (all : List Labels). is_among all other ≡ true) (sym one_more)

  from_more : (other : Labels) → is_among (take (index + 1) names) other ≡ true → is_among (take index names ++ name ∷ []) other ≡ true
  from_more other = subst (λ (all : List Labels). is_among all other ≡ true) one_more

  -- those met before are among those passed over, with one more
  pub part_passed : IsPartOf (take met before) (take (index + 1) names)
  part_passed other among = in_more other (among_left (take index names) name other (part other among))

  -- one that isn't met is put at the end
  pub either_put : (other : Labels) → is_among (take (index + 1) names) other ≡ true → (is_among before other ≡ true) ⊎ (is_among (newly ++ name ∷ []) other ≡ true)
  either_put other among =
      elim (among_cases (take index names) name other (from_more other among)) [
        | inl earlier ↦ elim (either other earlier) [
          | inl old ↦ inl old
          | inr new ↦ inr (among_left newly name other new)
        ]
        | inr here ↦ inr (among_last newly name other here)
      ]

  module _ (next : Labels) (some : met < length before) (at : next ≡ get_or before met next) (same : next ≡ name) where
    -- one that is met is among those passed over
    pub part_met : IsPartOf (take (met + 1) before) (take (index + 1) names)
    part_met other among =
        elim (among_cases (take met before) next other (subst (λ (all : List Labels). is_among all other ≡ true)
        (take_more before met next some ∙ ap (λ (n : Labels). take met before ++ n ∷ []) (sym at)) among)) [
          | inl earlier ↦ part_passed other earlier
          | inr here ↦ in_more other (among_last (take index names) name other (subst (λ (n : Labels). name_eq other n ≡ true) same here))
        ]

    -- and it isn't new
    pub either_met : (other : Labels) → is_among (take (index + 1) names) other ≡ true → (is_among before other ≡ true) ⊎ (is_among newly other ≡ true)
    either_met other among =
        elim (among_cases (take index names) name other (from_more other among)) [
          | inl earlier ↦ either other earlier
          | inr here ↦ inl (any_has (name_eq other) before next
              (subst (Contains before) (sym at) (Contains-get_or before met next some))
              (subst (λ (n : Labels). name_eq other n ≡ true) (sym same) here))
        ]
