-- The least item of a list that passes a test.
use Rattle.std.proofs.Common.{◌≡◌, Bool, true, false, ◌⊎◌, List, [], ◌∷◌, Contains, Ordering, Less, Equal, Greater, is_eq, sym, refl, ap, ◌∙◌, subst, inl, inr, true≢false}
use Rattle.std.specs.Cmp.{IsTotalOrder}
use Rattle.dns_data.proofs.Membership.{none_in_nil, has_first, has_later, first_or_later}
use Rattle.dns_data.proofs.OrderedLists.{never_before_itself}

-- the item is in the list and passes the test, and no item before it does
pub record IsLeastItem {X : Type 0} (R : X → X → Ordering) (test : X → Bool) (xs : List X) (least : X) : Type 0 where
  pub among : Contains xs least
  pub passes : test least ≡ true
  pub none_before : (x : X) → Contains xs x → test x ≡ true → R x least ≡ Less → ⊥

module _ {X : Type 0} (R : X → X → Ordering) (o : IsTotalOrder R) (test : X → Bool) where
  -- a list has a least item that passes the test, or none of its items passes
  pub least_or_none : (xs : List X) → ((x : X) → Contains xs x → test x ≡ false) ⊎ ((least : X) × IsLeastItem R test xs least)
  least_or_none [] = inl (λ x has. absurd (none_in_nil x has))
  least_or_none (first ∷ xs) = by (test first) refl (least_or_none xs) where
    alone : test first ≡ true → ((x : X) → Contains xs x → test x ≡ false) → IsLeastItem R test (first ∷ xs) first
    alone pass none =
        record {
          among = has_first first xs;
          passes = pass;
          none_before = λ x has yes less.
              elim (first_or_later first xs x has) [
                | inl same ↦ never_before_itself R o first (subst (λ (y : X). R y first ≡ Less) (sym same) less)
                | inr later ↦ true≢false (sym yes ∙ none x later)
              ];
        }

    earlier : test first ≡ true → (least : X) → IsLeastItem R test xs least → R first least ≡ Less → IsLeastItem R test (first ∷ xs) first
    earlier pass least is before =
        record {
          among = has_first first xs;
          passes = pass;
          none_before = λ x has yes less.
              elim (first_or_later first xs x has) [
                | inl same ↦ never_before_itself R o first (subst (λ (y : X). R y first ≡ Less) (sym same) less)
                | inr later ↦ is.none_before x later yes (o.trans x first least less before)
              ];
        }

    kept : (least : X) → IsLeastItem R test xs least → (test first ≡ true → R first least ≡ Less → ⊥) → IsLeastItem R test (first ∷ xs) least
    kept least is not_first =
        record {
          among = has_later first xs least is.among;
          passes = is.passes;
          none_before = λ x has yes less.
              elim (first_or_later first xs x has) [
                | inl same ↦ not_first (ap test same ∙ yes) (subst (λ (y : X). R y least ≡ Less) (sym same) less)
                | inr later ↦ is.none_before x later yes less
              ];
        }

    compared : test first ≡ true → (least : X) → IsLeastItem R test xs least → (r : Ordering) → R first least ≡ r → (found : X) × IsLeastItem R test (first ∷ xs) found
    compared pass least is Less e = (first, earlier pass least is e)
    compared pass least is Equal e = (least, kept least is (λ _ less. true≢false (ap is_eq (sym e ∙ less))))
    compared pass least is Greater e = (least, kept least is (λ _ less. absurd (cc (e, less))))

    by : (b : Bool) → test first ≡ b → ((x : X) → Contains xs x → test x ≡ false) ⊎ ((least : X) × IsLeastItem R test xs least)
        → ((x : X) → Contains (first ∷ xs) x → test x ≡ false) ⊎ ((least : X) × IsLeastItem R test (first ∷ xs) least)
    by true e (inl none) = inr (first, alone e none)
    by true e (inr (least, is)) = inr (compared e least is (R first least) refl)
    by false e (inl none) =
        inl (λ x has. elim (first_or_later first xs x has) [ inl same ↦ ap test (sym same) ∙ e | inr later ↦ none x later ])
    by false e (inr (least, is)) = inr (least, kept least is (λ yes _. true≢false (sym yes ∙ e)))
