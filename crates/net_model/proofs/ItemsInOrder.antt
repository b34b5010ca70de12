-- Items put in order, each once: which they are; and that of names each stands before the later ones.
use Rattle.std.proofs.Common.{◌≡◌, ◌∙◌, ◌⊎◌, List, [], ◌∷◌, Contains, Ordering, Less, Equal, Greater, inl, inr, refl, sym, ap, subst}
use Rattle.std.specs.Ordering.{ordering_reverse}
use Rattle.std.proofs.lemmas.Map.Lookups.{CmpEqualImpliesEq}
use Rattle.dns_data.specs.Name.{Labels, name_cmp}
use Rattle.dns_data.proofs.Membership.{none_in_nil, has_first, has_later, first_or_later}
use Rattle.dns_data.proofs.NameOrder.{Before, Rising, names_total}
use Rattle.net_model.specs.Order.{put_in_order, in_order, beside}

module _ {A : Type 0} (cmp : A → A → Ordering) where
  -- an item of a list into which one was put is that one, or was there
  pub from_put : (item : A) (xs : List A) (x : A) → Contains (put_in_order cmp item xs) x → (item ≡ x) ⊎ Contains xs x
  from_put item [] x has = first_or_later item [] x has
  from_put item (first ∷ rest) x has = by (cmp item first) has (from_put item rest x) where
    by : (o : Ordering) → Contains (beside item first rest (put_in_order cmp item rest) o) x
        → (Contains (put_in_order cmp item rest) x → (item ≡ x) ⊎ Contains rest x) → (item ≡ x) ⊎ Contains (first ∷ rest) x
    by Less has later = first_or_later item (first ∷ rest) x has
    by Equal has later = inr has
    by Greater has later =
        elim (first_or_later first (put_in_order cmp item rest) x has) [
          | inl same ↦ inr (subst (Contains (first ∷ rest)) same (has_first first rest))
          | inr behind ↦ elim (later behind) [ inl own ↦ inl own | inr other ↦ inr (has_later first rest x other) ]
        ]

  -- each of the items in order is one of them
  pub from_order : (xs : List A) (x : A) → Contains (in_order cmp xs) x → Contains xs x
  from_order [] x has = has
  from_order (item ∷ xs) x has =
      elim (from_put item (in_order cmp xs) x has) [
        | inl same ↦ subst (Contains (item ∷ xs)) same (has_first item xs)
        | inr later ↦ has_later item xs x (from_order xs x later)
      ]

  module _ (exact : CmpEqualImpliesEq cmp) where
    -- an item put in order is there, with those that were
    put_has : (item : A) (xs : List A) (x : A) → (item ≡ x) ⊎ Contains xs x → Contains (put_in_order cmp item xs) x
    put_has item [] x (inl same) = subst (Contains (item ∷ [])) same (has_first item [])
    put_has item [] x (inr has) = absurd (none_in_nil x has)
    put_has item (first ∷ rest) x is = by (cmp item first) refl is (put_has item rest x) where
      by : (o : Ordering) → cmp item first ≡ o → (item ≡ x) ⊎ Contains (first ∷ rest) x
          → ((item ≡ x) ⊎ Contains rest x → Contains (put_in_order cmp item rest) x)
          → Contains (beside item first rest (put_in_order cmp item rest) o) x
      by Less e (inl same) later = subst (Contains (item ∷ first ∷ rest)) same (has_first item (first ∷ rest))
      by Less e (inr has) later = has_later item (first ∷ rest) x has
      by Equal e (inl same) later = subst (Contains (first ∷ rest)) (sym (exact item first e) ∙ same) (has_first first rest)
      by Equal e (inr has) later = has
      by Greater e (inl same) later = has_later first (put_in_order cmp item rest) x (later (inl same))
      by Greater e (inr has) later =
          elim (first_or_later first rest x has) [
            | inl same ↦ subst (Contains (first ∷ put_in_order cmp item rest)) same (has_first first (put_in_order cmp item rest))
            | inr behind ↦ has_later first (put_in_order cmp item rest) x (later (inr behind))
          ]

    -- each item is one of those in order
    pub order_has : (xs : List A) (x : A) → Contains xs x → Contains (in_order cmp xs) x
    order_has [] x has = has
    order_has (item ∷ xs) x has =
        put_has item (in_order cmp xs) x (elim (first_or_later item xs x has) [ inl same ↦ inl same | inr later ↦ inr (order_has xs x later) ])

-- names in order stay so when one is put in
put_rises : (item : Labels) (names : List Labels) → Rising names → Rising (put_in_order name_cmp item names)
put_rises item [] h = (λ later has. absurd (none_in_nil later has), tt)
put_rises item (first ∷ rest) h = by (name_cmp item first) refl (put_rises item rest h.1) where
  by : (o : Ordering) → name_cmp item first ≡ o → Rising (put_in_order name_cmp item rest)
      → Rising (beside item first rest (put_in_order name_cmp item rest) o)
  by Less e later = (
    λ name has. elim (first_or_later first rest name has) [
      | inl same ↦ subst (Before item) same e
      | inr behind ↦ names_total.trans item first name e (h.0 name behind)
    ],
    h,
  )
  by Equal e later = h
  by Greater e later = (
    λ name has. elim (from_put name_cmp item rest name has) [
      | inl own ↦ subst (Before first) own (names_total.antisymm first item ∙ ap ordering_reverse e)
      | inr behind ↦ h.0 name behind
    ],
    later,
  )

-- of names in order each stands before the later ones
pub order_rises : (names : List Labels) → Rising (in_order name_cmp names)
order_rises [] = tt
order_rises (item ∷ names) = put_rises item (in_order name_cmp names) (order_rises names)
