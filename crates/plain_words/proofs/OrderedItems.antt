-- Items put in order, each once: which they are, that each stands before the later ones, and that no other list is so.
use Rattle.std.proofs.Common.{◌≡◌, ◌∙◌, ◌⊎◌, ◌↔◌, List, [], ◌∷◌, Contains, AllPairs, Ordering, Less, Equal, Greater, inl, inr, refl, sym, ap, subst, arith}
use Rattle.std.specs.Cmp.{IsTotalOrder}
use Rattle.std.specs.Ordering.{ordering_reverse}
use Rattle.std.proofs.lemmas.List.Kept.{AllPairs-cons}
use Rattle.dns_data.proofs.Membership.{none_in_nil, has_first, has_later, first_or_later, all_from_contains, pairs_first, pairs_rest}
use Rattle.dns_data.proofs.OrderedLists.{same_rising}
use Rattle.net_model.specs.Order.{put_in_order, in_order, beside}
use Rattle.net_model.proofs.ItemsInOrder.{from_put, from_order}
use Rattle.plain_words.specs.Same.{HaveSame}

module _ {X : Type 0} (R : X → X → Ordering) (total : IsTotalOrder R) where
  -- each item stands before the later ones
  abbrev Rises : List X → Type 0
  Rises xs = AllPairs (λ a b. R a b ≡ Less) xs

  -- the list stays in order
  put_rises : (item : X) (xs : List X) → Rises xs → Rises (put_in_order R item xs)
  put_rises item [] rises = AllPairs-cons (λ a b. R a b ≡ Less) item [] (all_from_contains (λ x. R item x ≡ Less) [] (λ x has. absurd (none_in_nil x has))) rises
  put_rises item (first ∷ rest) rises =
      by (R item first) refl (put_rises item rest (pairs_rest (λ a b. R a b ≡ Less) first rest rises))
    where
      by : (o : Ordering) → R item first ≡ o → Rises (put_in_order R item rest) → Rises (beside item first rest (put_in_order R item rest) o)
      by Less e later =
          AllPairs-cons (λ a b. R a b ≡ Less) item (first ∷ rest)
          (all_from_contains (λ x. R item x ≡ Less) (first ∷ rest) (λ x has. elim (first_or_later first rest x has) [
            | inl same ↦ subst (λ (y : X). R item y ≡ Less) same e
            | inr behind ↦ total.trans item first x e (pairs_first (λ a b. R a b ≡ Less) first rest rises x behind)
          ])) rises
      by Equal e later = rises
      by Greater e later =
          AllPairs-cons (λ a b. R a b ≡ Less) first (put_in_order R item rest)
          (all_from_contains (λ x. R first x ≡ Less) (put_in_order R item rest) (λ x has. elim (from_put R item rest x has) [
            | inl own ↦ subst (λ (y : X). R first y ≡ Less) own (total.antisymm first item ∙ ap ordering_reverse e)
            | inr behind ↦ pairs_first (λ a b. R a b ≡ Less) first rest rises x behind
          ])) later

  -- each stands before the later ones
  pub order_rises : (xs : List X) → Rises (in_order R xs)
  order_rises [] = λ i j d before within. absurd (omega arith)
  order_rises (item ∷ xs) = put_rises item (in_order R xs) (order_rises xs)

  module _ (P : X → Type 0) (exact : (x y : X) → P x → P y → R x y ≡ Equal → x ≡ y) where
    -- an item put in order is there, with those that were
    put_has : (item : X) (xs : List X) (x : X) → P item → ((y : X) → Contains xs y → P y) → (item ≡ x) ⊎ Contains xs x → Contains (put_in_order R item xs) x
    put_has item [] x one each (inl same) = subst (Contains (item ∷ [])) same (has_first item [])
    put_has item [] x one each (inr has) = absurd (none_in_nil x has)
    put_has item (first ∷ rest) x one each is =
        by (R item first) refl is (put_has item rest x one (λ y has. each y (has_later first rest y has)))
      where
        by : (o : Ordering) → R item first ≡ o → (item ≡ x) ⊎ Contains (first ∷ rest) x
            → ((item ≡ x) ⊎ Contains rest x → Contains (put_in_order R item rest) x)
            → Contains (beside item first rest (put_in_order R item rest) o) x
        by Less e (inl same) later = subst (Contains (item ∷ first ∷ rest)) same (has_first item (first ∷ rest))
        by Less e (inr has) later = has_later item (first ∷ rest) x has
        by Equal e (inl same) later =
            subst (Contains (first ∷ rest)) (sym (exact item first one (each first (has_first first rest)) e) ∙ same) (has_first first rest)
        by Equal e (inr has) later = has
        by Greater e (inl same) later = has_later first (put_in_order R item rest) x (later (inl same))
        by Greater e (inr has) later =
            elim (first_or_later first rest x has) [
              | inl same ↦ subst (Contains (first ∷ put_in_order R item rest)) same (has_first first (put_in_order R item rest))
              | inr behind ↦ has_later first (put_in_order R item rest) x (later (inr behind))
            ]

    -- the items in order are all those of the list, if its items are told apart
    pub order_has : (xs : List X) → ((y : X) → Contains xs y → P y) → (x : X) → Contains xs x → Contains (in_order R xs) x
    order_has [] each x has = has
    order_has (item ∷ xs) each x has =
        put_has item (in_order R xs) x (each item (has_first item xs)) (λ y among. each y (has_later item xs y (from_order R xs y among)))
        (elim (first_or_later item xs x has) [
          | inl same ↦ inl same
          | inr later ↦ inr (order_has xs (λ y among. each y (has_later item xs y among)) x later)
        ])

    -- so the items in order are the one list that rises and has just these items
    pub order_is : (xs list : List X) → ((y : X) → Contains xs y → P y) → (in_order R xs ≡ list) ↔ (Rises list × HaveSame xs list)
    order_is xs list each = (
      λ same. (
        subst Rises same (order_rises xs),
        λ item. (
          (λ has. subst (λ (l : List X). Contains l item) same (order_has xs each item has)),
          (λ has. from_order R xs item (subst (λ (l : List X). Contains l item) (sym same) has)),
        ),
      ),
      λ is. same_rising R total (in_order R xs) list (order_rises xs) is.0
          (λ item has. (is.1 item).0 (from_order R xs item has))
          (λ item has. order_has xs each item ((is.1 item).1 has)),
    )

    -- and two lists in order are equal exactly if they have the same items
    pub orders_same : (xs ys : List X) → ((y : X) → Contains xs y → P y) → ((y : X) → Contains ys y → P y) → (in_order R xs ≡ in_order R ys) ↔ HaveSame xs ys
    orders_same xs ys each every = (
      λ same item. (
        (λ has. from_order R ys item (subst (λ (l : List X). Contains l item) same (order_has xs each item has))),
        (λ has. from_order R xs item (subst (λ (l : List X). Contains l item) (sym same) (order_has ys every item has))),
      ),
      λ both. same_rising R total (in_order R xs) (in_order R ys) (order_rises xs) (order_rises ys)
          (λ item has. order_has ys every item ((both item).0 (from_order R xs item has)))
          (λ item has. order_has xs each item ((both item).1 (from_order R ys item has))),
    )
