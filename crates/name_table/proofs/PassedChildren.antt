-- The names one label below another, one after another: each is passed together with those below it.
use Rattle.std.proofs.Common.{◌≡◌, ◌∙◌, ℕ, ◌+◌, ◌-◌, ◌<◌, ◌≤◌, false, List, [], ◌∷◌, ◌++◌, length, AllPairs, Contains, inl, inr, sym, ap, subst, true≢false, append_assoc, arith}
use Rattle.std.specs.Prelude.{◌↔◌}
use Rattle.std.proofs.lemmas.Bool.{cases_lt, false_from_ne_true}
use Rattle.std.proofs.lemmas.List.Elements.{Contains-append_cases, Contains-append_left, Contains-append_right}
use Rattle.dns_data.specs.Name.{Labels, is_prefix}
use Rattle.dns_data.proofs.Membership.{none_in_nil, has_first, first_or_later, pairs_more}
use Rattle.dns_data.proofs.NameFronts.{Begins, is_prefix_tells, is_prefix_told}
use Rattle.name_table.specs.Table.{name_at, IsTable, IsNextBelow, IsEnd}
use Rattle.name_table.proofs.Tables.{inside_between, next_begins, next_behind, one_child, top_below}

-- a name that begins one that begins another begins that one too
begins_then : (a b c : Labels) → Begins a b → Begins b c → Begins a c
begins_then a b c (x, e) (y, f) = (x ++ y, sym (append_assoc a x y) ∙ ap (λ (l : Labels). l ++ y) e ∙ f)

-- the places are those of the names one label below the one at the place that stand before the next place, and no name
-- between that one and the next begins the next
pub record ArePassed (names : List Labels) (place : ℕ) (places : List ℕ) (next : ℕ) : Type 0 where
  pub behind : place < next
  pub rising : AllPairs (λ a b. a < b) places
  pub has : (other : ℕ) → Contains places other ↔ (IsNextBelow names place other × (other < next))
  pub apart : (k : ℕ) → place < k → k < next → next < length names → is_prefix (name_at names k) (name_at names next) ≡ false

module _ (names : List Labels) (table : IsTable names) (place : ℕ) where
  -- at first none is passed
  pub passed_none : ArePassed names place [] (place + 1)
  passed_none =
      record {
        behind = omega arith;
        rising = λ i j d before within. absurd (omega arith);
        has = λ other. (
          λ none. absurd (none_in_nil other none),
          λ (next, before). absurd (omega (arith, before, next_behind names table.ordered place other next)),
        );
        apart = λ k low high within. absurd (omega (arith, low, high));
      }

  module _ (places : List ℕ) (next : ℕ) (passed : ArePassed names place places next) where
    -- a name that none between begins is one label below the first, if it is below it
    pub is_next : next < length names → Begins (name_at names place) (name_at names next) → IsNextBelow names place next
    is_next within begins =
        let (child, is, low, above) = top_below names table.ordered table place next passed.behind within begins in
        elim (cases_lt child next) [
          | inl before ↦
              absurd (true≢false (sym (is_prefix_told (name_at names child) (name_at names next) above)
              ∙ passed.apart child (next_behind names table.ordered place child is) before within))
          | inr here ↦ (let e : child ≡ next = omega (arith, low, here) in subst (IsNextBelow names place) e is)
        ]

    -- once that is not so, all are passed
    pub passed_all : (next < length names → is_prefix (name_at names place) (name_at names next) ≡ false)
        → (other : ℕ) → Contains places other ↔ IsNextBelow names place other
    passed_all outside other = (
      λ has. ((passed.has other).0 has).0,
      λ is. elim (cases_lt other next) [
        | inl before ↦ (passed.has other).1 (is, before)
        | inr behind ↦ (
            let within : next < length names = omega (arith, behind, is.inside) in
            let begins : Begins (name_at names place) (name_at names next) =
            inside_between names table.ordered place next other (omega (arith, passed.behind)) behind is.inside (next_begins names place other is) in
            absurd (true≢false (sym (is_prefix_told (name_at names place) (name_at names next) begins) ∙ outside within)))
      ],
    )

    -- the next one is passed with those below it
    pub passed_more : (end : ℕ) → next < length names → Begins (name_at names place) (name_at names next) → IsEnd names next end
        → ArePassed names place (places ++ next ∷ []) end
    passed_more end within begins ends =
        record {
          behind = omega (arith, passed.behind, ends.behind);
          rising = pairs_more (λ (a b : ℕ). a < b) places next passed.rising (λ other has. ((passed.has other).0 has).1);
          has = λ other. (there other, back other);
          apart = apart;
        }
      where
        is : IsNextBelow names place next
        is = is_next within begins

        inside : (k : ℕ) → next ≤ k → k < end → Begins (name_at names next) (name_at names k)
        inside k low high =
            inside_between names table.ordered next k (end - 1) low (omega (arith, high)) (omega (arith, ends.within, high))
            (is_prefix_tells (name_at names next) (name_at names (end - 1)) ends.inside)

        there : (other : ℕ) → Contains (places ++ next ∷ []) other → IsNextBelow names place other × (other < end)
        there other has =
            elim (Contains-append_cases places (next ∷ []) other has) [
              | inl old ↦ (let was = (passed.has other).0 old in (was.0, omega (arith, was.1, ends.behind)))
              | inr new ↦ elim (first_or_later next [] other new) [
                | inl same ↦ subst (λ (k : ℕ). IsNextBelow names place k × (k < end)) same (is, ends.behind)
                | inr none ↦ absurd (none_in_nil other none)
              ]
            ]

        back : (other : ℕ) → IsNextBelow names place other × (other < end) → Contains (places ++ next ∷ []) other
        back other (also, before) =
            elim (cases_lt other next) [
              | inl lower ↦ Contains-append_left places (next ∷ []) other ((passed.has other).1 (also, lower))
              | inr behind ↦ (
                  let e : next ≡ other = one_child names table.ordered place next other is also (inside other behind before) in
                  Contains-append_right places (next ∷ []) other (subst (Contains (next ∷ [])) e (has_first next [])))
            ]

        apart : (k : ℕ) → place < k → k < end → end < length names → is_prefix (name_at names k) (name_at names end) ≡ false
        apart k low high more = false_from_ne_true (is_prefix (name_at names k) (name_at names end)) (λ yes. never (is_prefix_tells (name_at names k) (name_at names end) yes)) where
          outside : Begins (name_at names next) (name_at names end) → ⊥
          outside all = true≢false (sym (is_prefix_told (name_at names next) (name_at names end) all) ∙ ends.outside more)

          never : Begins (name_at names k) (name_at names end) → ⊥
          never all =
              elim (cases_lt k next) [
                | inl before ↦
                    true≢false (sym (is_prefix_told (name_at names k) (name_at names next)
                    (inside_between names table.ordered k next end (omega (arith, before)) (omega (arith, ends.behind)) more all))
                    ∙ passed.apart k low before within)
                | inr behind ↦ outside (begins_then (name_at names next) (name_at names k) (name_at names end) (inside k behind high) all)
              ]
