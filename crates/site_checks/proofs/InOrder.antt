-- Items put behind others, each unless it is there.
use Rattle.std.proofs.Common.{◌≡◌, Bool, true, false, cond, List, [], ◌∷◌, ◌++◌, append-nil, append_assoc, Contains, refl, sym, ap, ◌∙◌, subst, inl, inr}
use Rattle.std.specs.Prelude.{◌↔◌}
use Rattle.std.specs.List.{fold, list_any}
use Rattle.std.proofs.lemmas.List.Elements.{Contains-append_left, Contains-append_cases, Contains-push}
use Rattle.dns_data.specs.Distinct.{distinct, distinct_behind}
use Rattle.dns_data.proofs.Membership.{none_in_nil, has_first, has_later, first_or_later}
use Rattle.dns_data.proofs.Searches.{from_any, any_has, same_truth}
use Rattle.site_checks.specs.Once.{with_new}

module _ {X : Type 0} (eq : X → X → Bool) (decides : (a b : X) → (eq a b ≡ true) ↔ (a ≡ b)) where
  -- ---- one item

  -- where an equal item is there, the item is
  there_has : (items : List X) (item : X) → list_any (eq item) items ≡ true → Contains items item
  there_has items item there =
      let found = from_any (eq item) items there in
      subst (Contains items) (sym ((decides item found.0).0 found.2)) found.1

  has_there : (items : List X) (item : X) → Contains items item → list_any (eq item) items ≡ true
  has_there items item has = any_has (eq item) items item has ((decides item item).1 refl)

  -- what is in a list still is when an item is put behind it, unless that is there
  pub kept_behind : (items : List X) (item x : X) → Contains items x → Contains (with_new eq items item) x
  kept_behind items item x has = by (list_any (eq item) items) where
    by : (there : Bool) → Contains (cond there items (items ++ item ∷ [])) x
    by true = has
    by false = Contains-append_left items (item ∷ []) x has

  now_there : (items : List X) (item : X) → Contains (with_new eq items item) item
  now_there items item = by (list_any (eq item) items) refl where
    by : (there : Bool) → list_any (eq item) items ≡ there → Contains (cond there items (items ++ item ∷ [])) item
    by true is = there_has items item is
    by false is = Contains-push items item

  -- ---- several in turn

  -- what is in a list stays when items are put behind it, each unless it is there
  pub kept : (items more : List X) (x : X) → Contains items x → Contains (fold (with_new eq) items more) x
  kept items [] x has = has
  kept items (item ∷ more) x has = kept (with_new eq items item) more x (kept_behind items item x has)

  -- each item that is put behind a list, unless it is there, is in the list then
  pub added : (items more : List X) (x : X) → Contains more x → Contains (fold (with_new eq) items more) x
  added items [] x has = absurd (none_in_nil x has)
  added items (item ∷ more) x has =
      elim (first_or_later item more x has) [
        | inl same ↦ subst (Contains (fold (with_new eq) (with_new eq items item) more)) same
            (kept (with_new eq items item) more item (now_there items item))
        | inr later ↦ added (with_new eq items item) more x later
      ]

  -- putting items that are there behind a list, each unless it is there, changes nothing
  pub all_there : (items more : List X) → ((x : X) → Contains more x → Contains items x) → fold (with_new eq) items more ≡ items
  all_there items [] each = refl
  all_there items (item ∷ more) each =
      ap (λ (there : Bool). fold (with_new eq) (cond there items (items ++ item ∷ [])) more) (has_there items item (each item (has_first item more)))
      ∙ all_there items more (λ x has. each x (has_later item more x has))

  -- ---- of equal items the first

  -- the same items are among both
  record SameItems (before items : List X) : Type 0 where
    pub there : (x : X) → Contains before x → Contains items x
    pub back : (x : X) → Contains items x → Contains before x

  one_more : (before items : List X) (item : X) → SameItems before items → SameItems (before ++ item ∷ []) (with_new eq items item)
  one_more before items item same = record {
    there = λ x has. elim (Contains-append_cases before (item ∷ []) x has) [
      | inl old ↦ kept_behind items item x (same.there x old)
      | inr last ↦ elim (first_or_later item [] x last) [
        | inl is ↦ subst (Contains (with_new eq items item)) is (now_there items item)
        | inr none ↦ absurd (none_in_nil x none)
      ]
    ];
    back = λ x has. by (list_any (eq item) items) x has;
  }
    where
      by : (there : Bool) (x : X) → Contains (cond there items (items ++ item ∷ [])) x → Contains (before ++ item ∷ []) x
      by true x has = Contains-append_left before (item ∷ []) x (same.back x has)
      by false x has =
          elim (Contains-append_cases items (item ∷ []) x has) [
            | inl old ↦ Contains-append_left before (item ∷ []) x (same.back x old)
            | inr last ↦ elim (first_or_later item [] x last) [
              | inl is ↦ subst (Contains (before ++ item ∷ [])) is (Contains-push before item)
              | inr none ↦ absurd (none_in_nil x none)
            ]
          ]

  once_behind : (before items more : List X) → SameItems before items → fold (with_new eq) items more ≡ items ++ distinct_behind eq before more
  once_behind before items [] same = sym (append-nil items)
  once_behind before items (item ∷ more) same =
      once_behind (before ++ item ∷ []) (with_new eq items item) more (one_more before items item same)
      ∙ by (list_any (eq item) items) (list_any (eq item) before) tests
    where
      tests : list_any (eq item) items ≡ list_any (eq item) before
      tests =
          same_truth (list_any (eq item) items) (list_any (eq item) before)
          (λ e. has_there before item (same.back item (there_has items item e)))
          (λ e. has_there items item (same.there item (there_has before item e)))

      by : (one other : Bool) → one ≡ other
          → cond one items (items ++ item ∷ []) ++ distinct_behind eq (before ++ item ∷ []) more
          ≡ items ++ cond other (distinct_behind eq (before ++ item ∷ []) more) (item ∷ distinct_behind eq (before ++ item ∷ []) more)
      by true true e = refl
      by false false e = append_assoc items (item ∷ []) (distinct_behind eq (before ++ item ∷ []) more)
      by true false e = cc
      by false true e = cc

  -- items put behind an empty list, each unless it is there, are the distinct items
  pub once : (items : List X) → fold (with_new eq) [] items ≡ distinct eq items
  once items = once_behind [] [] items (record { there = λ x has. has; back = λ x has. has })
