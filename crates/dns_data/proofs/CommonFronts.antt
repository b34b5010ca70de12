-- Labels with which two names begin.
use Rattle.std.proofs.Common.{◌≡◌, ℕ, zero, suc, ◌+◌, ◌≤◌, Bool, cond, List, [], ◌∷◌, ◌++◌, length, take, refl, ap, ◌∙◌, subst, inl, inr, arith}
use Rattle.std.specs.List.{common_prefix_len}
use Rattle.std.proofs.lemmas.Bool.{cases_Bool}
use Rattle.dns_data.specs.Label.{label_eq}
use Rattle.dns_data.specs.Name.{Labels}
use Rattle.dns_data.proofs.NameFronts.{Begins}
use Rattle.dns_data.proofs.Names.{label_eq_decides}

-- two names have the same first labels, as many as the length of their common front says
pub common_front : (count : ℕ) (a b : Labels) → count ≤ common_prefix_len label_eq a b → take count a ≡ take count b
common_front zero a b few = refl
common_front (suc count) [] b few = absurd (omega arith)
common_front (suc count) (x ∷ a) [] few = absurd (omega arith)
common_front (suc count) (x ∷ a) (y ∷ b) few =
    elim (cases_Bool (label_eq x y)) [
      | inl same ↦ (
          let rest : count ≤ common_prefix_len label_eq a b = omega (arith, few, ap (λ (t : Bool). cond t (1 + common_prefix_len label_eq a b) 0) same) in
          ap (λ (l : List ℕ). l ∷ take count a) ((label_eq_decides x y).0 same) ∙ ap (λ (n : Labels). y ∷ n) (common_front count a b rest))
      | inr apart ↦ absurd (omega (arith, few, ap (λ (t : Bool). cond t (1 + common_prefix_len label_eq a b) 0) apart))
    ]

-- two names below one name begin with its labels
pub shared_front : (above x y : Labels) → length above ≤ common_prefix_len label_eq (above ++ x) (above ++ y)
shared_front [] x y = omega arith
shared_front (label ∷ above) x y =
    omega (arith, shared_front above x y, ap (λ (t : Bool). cond t (1 + common_prefix_len label_eq (above ++ x) (above ++ y)) 0) ((label_eq_decides label label).1 refl))

-- the common front of two names is at least as long as a name that begins both
pub both_begin : (above a b : Labels) → Begins above a → Begins above b → length above ≤ common_prefix_len label_eq a b
both_begin above a b (x, e) (y, f) =
    subst (λ (n : Labels). length above ≤ common_prefix_len label_eq n b) e
    (subst (λ (n : Labels). length above ≤ common_prefix_len label_eq (above ++ x) n) f (shared_front above x y))
