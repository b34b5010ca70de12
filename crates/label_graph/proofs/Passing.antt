-- What holds of some item of a list's front, and of a front with one item more.
use Rattle.std.specs.List.{flat_map}
use Rattle.std.proofs.lemmas.Grind.{flat_map-append}
use Rattle.std.proofs.Common.{ap, arith, append-nil, ◌≡◌, ◌∙◌, ℕ, ◌+◌, ◌<◌, ◌≤◌, ◌⊎◌, List, [], ◌∷◌, ◌++◌, length, map, take, get_or, Contains, inl, inr, sym, subst}
use Rattle.std.proofs.lemmas.List.{take_more, take_all}
use Rattle.std.proofs.lemmas.List.Elements.{Contains-append_left, Contains-append_right, Contains-append_cases}
use Rattle.std.specs.Prelude.{◌↔◌}
use Rattle.label_graph.specs.Graphs.{SomeItem}
use Rattle.dns_data.proofs.Membership.{none_in_nil, has_first, first_or_later, map_has, from_map, flat_map_has, from_flat_map}

module _ {X : Type 0} (P : X → Type 0) (xs : List X) (k : ℕ) (x : X) (below : k < length xs) (is : x ≡ get_or xs k x) where
  -- if an item passed before has the property or the next has it, one of the items passed then has it
  pub some_more : SomeItem P (take k xs) ⊎ P x → SomeItem P (take (k + 1) xs)
  some_more (inl (y, has, p)) = (
    y,
    subst (λ (l : List X). Contains l y) (sym (take_more xs k x below)) (Contains-append_left (take k xs) (get_or xs k x ∷ []) y has),
    p,
  )
  some_more (inr p) = (
    x,
    subst (λ (l : List X). Contains l x) (sym (take_more xs k x below))
        (Contains-append_right (take k xs) (get_or xs k x ∷ []) x
        (subst (Contains (get_or xs k x ∷ [])) (sym is) (has_first (get_or xs k x) []))),
    p,
  )

  -- what holds of some item of a front with one item more holds of one of the front, or of this item
  pub from_more : SomeItem P (take (k + 1) xs) → SomeItem P (take k xs) ⊎ P x
  from_more (y, has, p) =
      elim (Contains-append_cases (take k xs) (get_or xs k x ∷ []) y (subst (λ (l : List X). Contains l y) (take_more xs k x below) has)) [
        | inl old ↦ inl (y, old, p)
        | inr new ↦ elim (first_or_later (get_or xs k x) [] y new) [
          | inl same ↦ inr (subst P (sym same ∙ sym is) p)
          | inr none ↦ absurd (none_in_nil y none)
        ]
      ]

-- an item with a property among as many first items as there are is one of all
pub some_all : {X : Type 0} (P : X → Type 0) (xs : List X) (k : ℕ) → length xs ≤ k → SomeItem P (take k xs) → SomeItem P xs
some_all {X} P xs k over some = subst (SomeItem P) (take_all k xs over) some

-- what holds of some item of a list holds of one of a front that has as many items as the list
pub all_some : {X : Type 0} (P : X → Type 0) (xs : List X) (k : ℕ) → length xs ≤ k → SomeItem P xs → SomeItem P (take k xs)
all_some {X} P xs k over some = subst (SomeItem P) (sym (take_all k xs over)) some

-- ---- what a list has, told item by item

-- in a loop over a list: what was there before the loop, or comes from an item passed
pub more_iff : {X : Type 0} (P : X → Type 0) (xs : List X) (k : ℕ) (x : X) → k < length xs → x ≡ get_or xs k x → (base before after : Type 0)
    → (before ↔ (base ⊎ SomeItem P (take k xs))) → (after ↔ (before ⊎ P x)) → after ↔ (base ⊎ SomeItem P (take (k + 1) xs))
more_iff P xs k x below is base before after was now = (
  λ has. elim (now.0 has) [
    | inl old ↦ elim (was.0 old) [ inl b ↦ inl b | inr some ↦ inr (some_more P xs k x below is (inl some)) ]
    | inr new ↦ inr (some_more P xs k x below is (inr new))
  ],
  λ either. elim either [
    | inl b ↦ now.1 (inl (was.1 (inl b)))
    | inr some ↦ elim (from_more P xs k x below is some) [
      | inl old ↦ now.1 (inl (was.1 (inr old)))
      | inr new ↦ now.1 (inr new)
    ]
  ],
)

-- in a loop over a list, before which nothing was there: what comes from an item passed
pub more_some : {X : Type 0} (P : X → Type 0) (xs : List X) (k : ℕ) (x : X) → k < length xs → x ≡ get_or xs k x → (before after : Type 0)
    → (before ↔ SomeItem P (take k xs)) → (after ↔ (before ⊎ P x)) → after ↔ SomeItem P (take (k + 1) xs)
more_some P xs k x below is before after was now = (
  λ has. some_more P xs k x below is (elim (now.0 has) [ inl old ↦ inl (was.0 old) | inr new ↦ inr new ]),
  λ some. elim (from_more P xs k x below is some) [
    | inl old ↦ now.1 (inl (was.1 old))
    | inr new ↦ now.1 (inr new)
  ],
)

-- in a loop over a list, once all items are passed: what comes from some item
pub all_iff : {X : Type 0} (P : X → Type 0) (xs : List X) (k : ℕ) → length xs ≤ k → (there : Type 0)
    → (there ↔ SomeItem P (take k xs)) → there ↔ SomeItem P xs
all_iff P xs k over there was = (λ has. some_all P xs k over (was.0 has), λ some. was.1 (all_some P xs k over some))

-- in a loop over a list, once all items are passed: what was there before, or comes from some item
pub whole_iff : {X : Type 0} (P : X → Type 0) (xs : List X) (k : ℕ) → length xs ≤ k → (base there : Type 0)
    → (there ↔ (base ⊎ SomeItem P (take k xs))) → there ↔ (base ⊎ SomeItem P xs)
whole_iff {X} P xs k over base there was = subst (λ (l : List X). there ↔ (base ⊎ SomeItem P l)) (take_all k xs over) was

-- what was there before or has a property, if the property is told in other words
pub told_iff : (base there one other : Type 0) → (there ↔ (base ⊎ one)) → (one ↔ other) → there ↔ (base ⊎ other)
told_iff base there one other is same = (
  λ has. elim (is.0 has) [ inl b ↦ inl b | inr x ↦ inr (same.0 x) ],
  λ either. is.1 (elim either [ inl b ↦ inl b | inr y ↦ inr (same.1 y) ]),
)

-- two lists in a row have the items of both
pub append_iff : {X : Type 0} (xs ys : List X) (x : X) → Contains (xs ++ ys) x ↔ (Contains xs x ⊎ Contains ys x)
append_iff xs ys x = (
  Contains-append_cases xs ys x,
  λ either. elim either [ inl one ↦ Contains-append_left xs ys x one | inr two ↦ Contains-append_right xs ys x two ],
)

-- a list with the only item of a property put at its end has its items and what has the property
pub push_iff : {X : Type 0} (xs : List X) (x : X) (P : X → Type 0) → P x → ((y : X) → P y → x ≡ y) → (y : X) → Contains (xs ++ x ∷ []) y ↔ (Contains xs y ⊎ P y)
push_iff xs x P p only y = (
  λ has. elim (Contains-append_cases xs (x ∷ []) y has) [
    | inl old ↦ inl old
    | inr new ↦ elim (first_or_later x [] y new) [ inl same ↦ inr (subst P same p) | inr none ↦ absurd (none_in_nil y none) ]
  ],
  λ either. elim either [
    | inl old ↦ Contains-append_left xs (x ∷ []) y old
    | inr new ↦ Contains-append_right xs (x ∷ []) y (subst (Contains (x ∷ [])) (only y new) (has_first x []))
  ],
)

-- the lists of the items up to the next, in a row, end with that of the next
pub flat_more : {X Y : Type 0} (f : X → List Y) (xs : List X) (k : ℕ) (x : X) → k < length xs → x ≡ get_or xs k x
    → flat_map f (take (k + 1) xs) ≡ flat_map f (take k xs) ++ f x
flat_more {X = X} {Y = Y} f xs k x below is =
    ap (flat_map f) (take_more xs k x below ∙ ap (λ (y : X). take k xs ++ y ∷ []) (sym is)) ∙ flat_map-append f (take k xs) (x ∷ [])
    ∙ ap (λ (l : List Y). flat_map f (take k xs) ++ l) (append-nil (f x))

-- what comes from the only item of a list comes from some item of it
pub one_iff : (P : ℕ → Type 0) (xs : List ℕ) → length xs ≡ 1 → (there : Type 0) → (there ↔ P (get_or xs 0 0)) → there ↔ SomeItem P xs
one_iff P [] e there is = absurd (omega (arith, e))
one_iff P (x ∷ []) e there is = (
  λ has. (x, has_first x [], is.0 has),
  λ (y, has, p). elim (first_or_later x [] y has) [ inl same ↦ is.1 (subst P (sym same) p) | inr none ↦ absurd (none_in_nil y none) ],
)
one_iff P (x ∷ y ∷ xs) e there is = absurd (omega (arith, e))

-- a list of the only item with a property has just what has the property
pub single_iff : {X : Type 0} (x : X) (P : X → Type 0) → P x → ((y : X) → P y → x ≡ y) → (y : X) → Contains (x ∷ []) y ↔ P y
single_iff x P p only y = (
  λ has. elim (first_or_later x [] y has) [ inl same ↦ subst P same p | inr none ↦ absurd (none_in_nil y none) ],
  λ is. subst (Contains (x ∷ [])) (only y is) (has_first x []),
)

-- ---- other lists with the same items

-- some item has a property as it is seen exactly if some seen item has it
pub some_seen : {X Y : Type 0} (f : X → Y) (P : Y → Type 0) (xs : List X) → SomeItem (λ x. P (f x)) xs ↔ SomeItem P (map f xs)
some_seen f P xs = (
  λ (x, has, p). (f x, map_has f xs x has, p),
  λ (y, has, p). let (x, among, is) = from_map f xs y has in (x, among, subst P (sym is) p),
)

-- an item of lists in a row is one of some list
pub some_flat : {X Y : Type 0} (f : X → List Y) (xs : List X) (y : Y) → SomeItem (λ x. Contains (f x) y) xs ↔ Contains (flat_map f xs) y
some_flat f xs y = (
  λ (x, has, within). flat_map_has f xs x y has within,
  from_flat_map f xs y,
)
