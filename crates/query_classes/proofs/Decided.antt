-- What is so or isn't: decisions, those on lists, and when two names are one.
use Rattle.std.proofs.Common.{◌≡◌, ◌⊎◌, ◌↔◌, Bool, true, false, List, [], ◌∷◌, Contains, refl, sym, subst, inl, inr, true≢false}
use Rattle.dns_data.specs.Name.{Labels, name_eq}
use Rattle.dns_data.proofs.Membership.{none_in_nil, has_first, has_later, first_or_later}
use Rattle.dns_data.proofs.Names.{name_eq_decides}

-- the statement holds, or it doesn't
abbrev pub Decided : Type 0 → Type 0
Decided P = P ⊎ (P → ⊥)

-- a statement that a test tells is decided
pub by_test : {P : Type 0} (b : Bool) → (b ≡ true → P) → (P → b ≡ true) → Decided P
by_test true there back = inl (there refl)
by_test false there back = inr (λ p. true≢false (sym (back p)))

-- a statement that means the same as a decided one is decided
pub turned : {P Q : Type 0} → (P → Q) → (Q → P) → Decided P → Decided Q
turned there back (inl p) = inl (there p)
turned there back (inr isnt) = inr (λ q. isnt (back q))

-- whether two decided statements hold is decided
pub both : {P Q : Type 0} → Decided P → Decided Q → Decided (P × Q)
both (inl p) (inl q) = inl (p, q)
both (inl p) (inr isnt) = inr (λ pq. isnt pq.1)
both (inr isnt) other = inr (λ pq. isnt pq.0)

-- whether one of two decided statements holds is decided
pub either : {P Q : Type 0} → Decided P → Decided Q → Decided (P ⊎ Q)
either (inl p) other = inl (inl p)
either (inr isnt) (inl q) = inl (inr q)
either (inr isnt) (inr nor) = inr (λ some. elim some [ inl p ↦ isnt p | inr q ↦ nor q ])

-- whether a decided statement doesn't hold is decided
pub not_so : {P : Type 0} → Decided P → Decided (P → ⊥)
not_so (inl p) = inr (λ isnt. isnt p)
not_so (inr isnt) = inl isnt

-- ---- items of a list

module _ {X : Type 0} (P : X → Type 0) (decide : (x : X) → Decided (P x)) where
  -- whether some item of a list has a decided property is decided
  pub any_of : (xs : List X) → Decided ((x : X) × Contains xs x × P x)
  any_of [] = inr (λ some. none_in_nil some.0 some.1)
  any_of (x ∷ xs) = by (decide x) (any_of xs) where
    by : Decided (P x) → Decided ((y : X) × Contains xs y × P y) → Decided ((y : X) × Contains (x ∷ xs) y × P y)
    by (inl p) rest = inl (x, has_first x xs, p)
    by (inr isnt) (inl (y, has, p)) = inl (y, has_later x xs y has, p)
    by (inr isnt) (inr none) =
        inr (λ (y, has, p). elim (first_or_later x xs y has) [
          | inl same ↦ isnt (subst P (sym same) p)
          | inr later ↦ none (y, later, p)
        ])

  -- a list has a list of its items with a decided property
  pub chosen : (xs : List X) → (ys : List X) × ((x : X) → Contains ys x ↔ (Contains xs x × P x))
  chosen [] = ([], λ x. ((λ has. absurd (none_in_nil x has)), (λ has. has.0)))
  chosen (x ∷ xs) = by (decide x) (chosen xs) where
    by : Decided (P x) → (ys : List X) × ((y : X) → Contains ys y ↔ (Contains xs y × P y))
        → (ys : List X) × ((y : X) → Contains ys y ↔ (Contains (x ∷ xs) y × P y))
    by (inl p) (ys, is) = (
      x ∷ ys,
      λ y. (
        (λ has. elim (first_or_later x ys y has) [
          | inl same ↦ (subst (Contains (x ∷ xs)) same (has_first x xs), subst P same p)
          | inr later ↦ (has_later x xs y ((is y).0 later).0, ((is y).0 later).1)
        ]),
        (λ has. elim (first_or_later x xs y has.0) [
          | inl same ↦ subst (Contains (x ∷ ys)) same (has_first x ys)
          | inr later ↦ has_later x ys y ((is y).1 (later, has.1))
        ]),
      ),
    )
    by (inr isnt) (ys, is) = (
      ys,
      λ y. (
        (λ has. (has_later x xs y ((is y).0 has).0, ((is y).0 has).1)),
        (λ has. elim (first_or_later x xs y has.0) [
          | inl same ↦ absurd (isnt (subst P (sym same) has.1))
          | inr later ↦ (is y).1 (later, has.1)
        ]),
      ),
    )

-- whether a list has an item is decided, if equality of items is
pub among : {X : Type 0} → ((a b : X) → Decided (a ≡ b)) → (xs : List X) (y : X) → Decided (Contains xs y)
among same xs y =
    turned (λ (x, has, e). subst (Contains xs) e has) (λ has. (y, has, refl)) (any_of (λ x. x ≡ y) (λ x. same x y) xs)

-- whether two names are equal is decided
pub same_name : (a b : Labels) → Decided (a ≡ b)
same_name a b = by_test (name_eq a b) (name_eq_decides a b).0 (name_eq_decides a b).1
