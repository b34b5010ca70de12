-- The first item of a kind is one; so is the first representative in class order that reaches more pairs of state and type
-- than so many.
use Rattle.std.proofs.Common.{◌≡◌, ℕ, List, [], ◌∷◌, ◌++◌, Contains, subst}
use Rattle.dns_data.specs.Name.{Labels}
use Rattle.dns_data.proofs.Membership.{has_first, has_later}
use Rattle.dns_data.proofs.OrderedLists.{neither_before}
use Rattle.graph_form.specs.Report.{Subject}
use Rattle.net_model.specs.declared.class.Class.{Class}
use Rattle.net_model.specs.Class.{class_cmp, IsRepresentative}
use Rattle.net_model.proofs.FaultOrder.{classes_total, one_class}
use Rattle.net_model.proofs.TrialOrder.{one_representative}
use Rattle.query_verdicts.specs.Passed.{IsFirstPassed}

-- the first items of a kind in equal lists are equal
pub first_of_kind : {X : Type 0} (P : X → Type 0) (before behind others rest : List X) (x y : X) → before ++ x ∷ behind ≡ others ++ y ∷ rest
    → ((z : X) → Contains before z → P z → ⊥) → ((z : X) → Contains others z → P z → ⊥) → P x → P y → x ≡ y
first_of_kind P [] behind [] rest x y e none also one other = cc
first_of_kind P [] behind (z ∷ others) rest x y e none also one other =
    let same : x ≡ z = cc in
    absurd (also z (has_first z others) (subst P same one))
first_of_kind P (z ∷ before) behind [] rest x y e none also one other =
    let same : y ≡ z = cc in
    absurd (none z (has_first z before) (subst P same other))
first_of_kind P (z ∷ before) behind (w ∷ others) rest x y e none also one other =
    let later : before ++ x ∷ behind ≡ others ++ y ∷ rest = cc in
    first_of_kind P before behind others rest x y later
    (λ v has. none v (has_later z before v has)) (λ v has. also v (has_later w others v has)) one other

-- two first representatives in class order that reach too many pairs are equal
pub one_passed : (subject : Subject) (states : ℕ) (a b : Labels) → IsFirstPassed subject states a → IsFirstPassed subject states b → a ≡ b
one_passed subject states a b p q =
    let class : p.class ≡ q.class =
    neither_before class_cmp classes_total one_class p.class q.class (q.first p.class a p.passes) (p.first q.class b q.passes) in
    one_representative subject.ground q.class a b
    (subst (λ (c : Class). IsRepresentative subject.ground c a) class p.passes.represents) q.passes.represents
