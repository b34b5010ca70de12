-- A class of the joint tree has one verdict, and two configurations have one answer.
use Rattle.std.proofs.Common.{◌≡◌, ◌∙◌, ℕ, [], refl, ap, subst, arith}
use Rattle.dns_data.specs.Name.{Labels}
use Rattle.dns_data.specs.declared.rr_type.RrType.{RrType}
use Rattle.dns_data.proofs.OrderedLists.{neither_before}
use Rattle.graph_form.proofs.TreeSizes.{one_size}
use Rattle.net_model.specs.declared.class.Class.{Class}
use Rattle.net_model.specs.Class.{class_cmp, IsRepresentative}
use Rattle.net_model.proofs.FaultOrder.{classes_total, one_class, one_type}
use Rattle.net_model.proofs.TrialOrder.{one_representative}
use Rattle.same_answers.specs.Compared.{Compared, joint}
use Rattle.same_answers.specs.Passed.{IsFirstPassedInOne}
use Rattle.same_answers.specs.Sameness.{IsFirstDifference, IsSameness}
use Rattle.same_answers.specs.Verdict.{IsFirstApart, IsPairEnd}
use Rattle.same_answers.specs.declared.sameness.Sameness.{Sameness}
use Rattle.same_answers.specs.declared.sameness.Sameness.TheVariants as sameness_as
use Rattle.same_answers.specs.declared.verdict.PairEnd.{PairEnd}
use Rattle.same_answers.specs.declared.verdict.PairEnd.TheVariants.{Equal, Apart, Unbounded, StatesPassed}

-- ---- of a class

module _ (two : Compared) (query : Labels) where
  one_first : (a b : RrType) → IsFirstApart two query a → IsFirstApart two query b → a ≡ b
  one_first a b one other = one_type a b (omega (arith, one.first b other.differ, other.first a one.differ))

  -- a query has one end in two configurations
  pub one_end : (a b : PairEnd) → IsPairEnd two query a → IsPairEnd two query b → a ≡ b
  one_end StatesPassed StatesPassed one other = refl
  one_end StatesPassed Unbounded one other = absurd (other.0.few one)
  one_end StatesPassed (Apart rtype) one other = absurd (other.0.few one)
  one_end StatesPassed Equal one other = absurd (other.0 one)
  one_end Unbounded StatesPassed one other = absurd (one.0.few other)
  one_end Unbounded Unbounded one other = refl
  one_end Unbounded (Apart rtype) one other = absurd (one.1 other.1)
  one_end Unbounded Equal one other = absurd (one.1 (other.1 one.0.learnt).0)
  one_end (Apart rtype) StatesPassed one other = absurd (one.0.few other)
  one_end (Apart rtype) Unbounded one other = absurd (other.1 one.1)
  one_end (Apart a) (Apart b) one other = ap Apart (one_first a b one.2 other.2)
  one_end (Apart rtype) Equal one other = absurd (one.2.differ ((other.1 one.0.learnt).1 rtype))
  one_end Equal StatesPassed one other = absurd (one.0 other)
  one_end Equal Unbounded one other = absurd (other.1 (one.1 other.0.learnt).0)
  one_end Equal (Apart rtype) one other = absurd (other.2.differ ((one.1 other.0.learnt).1 rtype))
  one_end Equal Equal one other = refl

-- ---- of two configurations

module _ (two : Compared) where
  -- representatives of one class are one
  one_query : (c d : Class) (a b : Labels) → c ≡ d → IsRepresentative (joint two) c a → IsRepresentative (joint two) d b → a ≡ b
  one_query c d a b same one other =
      one_representative (joint two) d a b (subst (λ (class : Class). IsRepresentative (joint two) class a) same one) other

  one_difference : (a b : Labels) (r t : RrType) → IsFirstDifference two a r → IsFirstDifference two b t → sameness_as.Apart a r ≡ sameness_as.Apart b t
  one_difference a b r t one other =
      let class : one.class ≡ other.class =
      neither_before class_cmp classes_total one_class one.class other.class
      (other.first_class one.class a one.apart) (one.first_class other.class b other.apart) in
      let query : a ≡ b = one_query one.class other.class a b class one.apart.represents other.apart.represents in
      let rtype : r ≡ t = one_first two b r t (subst (λ (name : Labels). IsFirstApart two name r) query one.first_type) other.first_type in
      ap (λ (name : Labels). sameness_as.Apart name r) query ∙ ap (λ (other : RrType). sameness_as.Apart b other) rtype

  -- two comparisons of the same configurations are equal
  pub one_sameness : (a b : Sameness) → IsSameness two a → IsSameness two b → a ≡ b
  one_sameness (sameness_as.Same classes names) (sameness_as.Same classes' names') one other =
      let (same_names, same_classes) = one_size (joint two) [] names classes names' classes' one.0 other.0 in
      ap (λ (n : ℕ). sameness_as.Same n names) same_classes ∙ ap (λ (n : ℕ). sameness_as.Same classes' n) same_names
  one_sameness (sameness_as.Same classes names) (sameness_as.Apart query rtype) one other =
      absurd (other.first_type.differ (one.1 query other.is_name other.apart.bounded rtype))
  one_sameness (sameness_as.Apart query rtype) (sameness_as.Same classes names) one other =
      absurd (one.first_type.differ (other.1 query one.is_name one.apart.bounded rtype))
  one_sameness (sameness_as.Apart a r) (sameness_as.Apart b t) one other = one_difference a b r t one other

  -- one representative is the first that passes in one of the configurations
  pub one_passed : (a b : Labels) → IsFirstPassedInOne two a → IsFirstPassedInOne two b → a ≡ b
  one_passed a b one other =
      let class : one.class ≡ other.class =
      neither_before class_cmp classes_total one_class one.class other.class
      (other.first one.class a one.passes) (one.first other.class b other.passes) in
      one_query one.class other.class a b class one.passes.represents other.passes.represents
