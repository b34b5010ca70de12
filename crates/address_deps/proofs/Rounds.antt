-- A round of a search, place by place, and the searches' measure.
use Rattle.std.proofs.Common.{◌≡◌, ℕ, ◌+◌, ◌<◌, ◌≤◌, Bool, true, false, List, [], ◌∷◌, ◌++◌, drop, get_or, length, refl, sym, ap, ◌∙◌, subst, inl, inr, arith, eqb-true, eq-eqb}
use Rattle.std.specs.Prelude.{◌⊎◌, ◌==◌, Contains}
use Rattle.std.specs.List.{list_any}
use Rattle.std.proofs.lemmas.List.{drop_all, drop_more}
use Rattle.std.proofs.lemmas.List.Elements.{Contains-append_cases, Contains-append_left, Contains-append_right}
use Rattle.dns_data.specs.Name.{Labels}
use Rattle.dns_data.proofs.Membership.{first_or_later, none_in_nil}
use Rattle.dns_data.proofs.Searches.{any_has, from_any}
use Rattle.address_deps.specs.declared.addresses.AddressLearnt.{AddressLearnt}
use Rattle.address_deps.specs.Dependents.{AreWithin, IsSearchRound}
use Rattle.address_deps.specs.Giving.{unset}

-- whether a number is in a list is decided
pub there_or_not : (numbers : List ℕ) (number : ℕ) → Contains numbers number ⊎ (Contains numbers number → ⊥)
there_or_not numbers number = by (list_any (λ n. n == number) numbers) refl where
  by : (b : Bool) → list_any (λ n. n == number) numbers ≡ b → Contains numbers number ⊎ (Contains numbers number → ⊥)
  by true e =
      let found = from_any (λ n. n == number) numbers e in
      inl (subst (Contains numbers) (eqb-true found.0 number found.2) found.1)
  by false e = inr (λ has. let no : false ≡ true = sym e ∙ any_has (λ n. n == number) numbers number has (eq-eqb number number refl) in cc)

-- what is left to do falls from round to round: fewer servers are left, or none waits
pub falls : (waiting next : List ℕ) (before after : ℕ) → (length waiting == 0) ≡ false → ((length next == 0) ≡ false → after < before) → after ≤ before
    → after + after + unset (length next == 0) < before + before + unset (length waiting == 0)
falls waiting next before after some fewer no_more =
    let was : unset (length waiting == 0) ≡ 1 = ap unset some in
    by (length next == 0) refl was
  where
    by : (b : Bool) → (length next == 0) ≡ b → unset (length waiting == 0) ≡ 1 → after + after + unset b < before + before + unset (length waiting == 0)
    by true e was = omega (arith, no_more, was)
    by false e was = let less = fewer e in omega (arith, less, was)

module _ (Good : List Labels → Type 0) (At : List Labels → ℕ → Type 0) (count : List Labels → ℕ) (addresses : List AddressLearnt) (waiting : List ℕ) (first : List Labels) where
  -- where a round stands in which the places before this one were looked at
  pub record IsRoundAt (at : ℕ) (names : List Labels) (next : List ℕ) : Type 0 where
    pub good : Good names
    pub others : (place : ℕ) → place < length addresses → Contains (drop at waiting) place ⊎ (Contains next place ⊎ At names place)
    pub within : AreWithin addresses next
    pub fewer : (length next == 0) ≡ false → count names < count first
    pub no_more : count names ≤ count first

  -- at the beginning of a round no place was looked at, and none waits for the next
  pub round_begins : IsSearchRound Good At addresses first waiting → IsRoundAt 0 first []
  round_begins round =
      record {
        good = round.good;
        others = λ place within. elim (round.others place within) [ inl waits ↦ inl waits | inr addresses ↦ inr (inr addresses) ];
        within = λ place has. absurd (none_in_nil place has);
        fewer = λ e. cc;
        no_more = omega arith;
      }

  -- where all waiting places were looked at, the names and the places that wait next stand between two rounds
  pub round_ends : (at : ℕ) (names : List Labels) (next : List ℕ) → length waiting ≤ at → IsRoundAt at names next → IsSearchRound Good At addresses names next
  round_ends at names next past on =
      record {
        good = on.good;
        others = λ place within. elim (on.others place within) [
          | inl waits ↦ absurd (none_in_nil place (subst (λ (xs : List ℕ). Contains xs place) (drop_all at waiting past) waits))
          | inr other ↦ other
        ];
        within = on.within;
      }

  module _ (at item : ℕ) (here : at < length waiting) (is : item ≡ get_or waiting at 0) (names : List Labels) (next : List ℕ) (on : IsRoundAt at names next) where
    later : (place : ℕ) → Contains (drop at waiting) place → (item ≡ place) ⊎ Contains (drop (at + 1) waiting) place
    later place has =
        first_or_later item (drop (at + 1) waiting) place
        (subst (λ (xs : List ℕ). Contains xs place) (drop_more waiting at 0 here ∙ ap (λ (n : ℕ). n ∷ drop (at + 1) waiting) (sym is)) has)

    -- a place at which the server doesn't change the set is looked at in the round
    pub round_same : At names item → IsRoundAt (at + 1) names next
    round_same addresses =
        record {
          good = on.good;
          others = λ place within. elim (on.others place within) [
            | inl waits ↦ elim (later place waits) [
              | inl same ↦ inr (inr (subst (At names) same addresses))
              | inr rest ↦ inl rest
            ]
            | inr other ↦ inr other
          ];
          within = on.within;
          fewer = on.fewer;
          no_more = on.no_more;
        }

    -- a place at which the server changes the set is looked at in the round, and the places that depend on it wait
    pub round_changed : (new : List Labels) (listed : List ℕ) → Good new → count new < count names → At new item
        → ((place : ℕ) → place < length addresses → At names place → Contains listed place ⊎ At new place) → AreWithin addresses listed
        → IsRoundAt (at + 1) new (next ++ listed)
    round_changed new listed good less addresses still within_listed =
        record {
          good = good;
          others = λ place within. elim (on.others place within) [
            | inl waits ↦ elim (later place waits) [
              | inl same ↦ inr (inr (subst (At new) same addresses))
              | inr rest ↦ inl rest
            ]
            | inr other ↦ elim other [
              | inl waits ↦ inr (inl (Contains-append_left next listed place waits))
              | inr before ↦ elim (still place within before) [
                | inl wakes ↦ inr (inl (Contains-append_right next listed place wakes))
                | inr stays ↦ inr (inr stays)
              ]
            ]
          ];
          within = λ place has. elim (Contains-append_cases next listed place has) [
            | inl old ↦ on.within place old
            | inr more ↦ within_listed place more
          ];
          fewer = λ e. omega (arith, less, on.no_more);
          no_more = omega (arith, less, on.no_more);
        }

-- none waits in an empty list
pub none_waits : (waiting : List ℕ) → (length waiting == 0) ≡ true → (place : ℕ) → Contains waiting place → ⊥
none_waits [] none place has = none_in_nil place has
none_waits (first ∷ waiting) none place has = let no = eqb-true (length (first ∷ waiting)) 0 none in absurd (omega (arith, no))
