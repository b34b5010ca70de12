-- A class has one verdict.
use Rattle.std.proofs.Common.{◌≡◌, ℕ, ◌≤◌, true, List, Contains, refl, sym, ap, ◌∙◌, subst, inl, inr, arith}
use Rattle.std.proofs.lemmas.Cmp.{on_total}
use Rattle.dns_data.specs.Name.{Labels}
use Rattle.dns_data.specs.RrType.{number_of}
use Rattle.dns_data.specs.declared.rr_type.RrType.{RrType}
use Rattle.dns_data.proofs.Membership.{from_map, each_along}
use Rattle.dns_data.proofs.OrderedLists.{same_rising}
use Rattle.graph_form.specs.Verdict.{AreShownOf}
use Rattle.graph_form.specs.declared.report.Seen.{Seen}
use Rattle.net_model.specs.declared.config.Config.{Config}
use Rattle.net_model.specs.declared.fault.Fault.{Fault}
use Rattle.net_model.specs.FaultOrder.{fault_cmp}
use Rattle.net_model.specs.Shown.{FaultSetting, Shows, with_sets}
use Rattle.net_model.specs.Step.{following}
use Rattle.net_model.proofs.FaultOrder.{faults_total, one_type}
use Rattle.query_verdicts.specs.Verdict.{SomeServerPasses, AreFaultsOf, IsClassVerdict}
use Rattle.query_verdicts.specs.declared.verdict.ClassVerdict.{ClassVerdict}
use Rattle.query_verdicts.specs.declared.verdict.ClassVerdict.TheVariants.{Faults, StatesPassed}
use Rattle.query_classes.proofs.Decided.{Decided}
use Rattle.net_model.proofs.InForce.{some_in_force}
use Rattle.query_verdicts.proofs.VerdictsExist.{server_decided}

module _ (setting : FaultSetting) (query : Labels) where
  -- what one list of the faults that the query shows has, another has
  has_too : (a b : List Seen) → AreShownOf setting query (λ fault. true) a → AreShownOf setting query (λ fault. true) b
      → (seen : Seen) → Contains a seen → Contains b seen
  has_too a b one two seen has =
      let shows : Shows setting query seen.rtype seen.fault = each_along (λ seen. Shows setting query seen.rtype seen.fault) a one.each_shown seen has in
      let other = from_map (λ (s : Seen). s.fault) b seen.fault (two.all_shown seen.fault seen.rtype refl shows) in
      let also : Shows setting query other.0.rtype other.0.fault = each_along (λ seen. Shows setting query seen.rtype seen.fault) b two.each_shown other.0 other.1 in
      let not_later : number_of seen.rtype ≤ number_of other.0.rtype =
      each_along (λ seen. (rtype : RrType) → Shows setting query rtype seen.fault → number_of seen.rtype ≤ number_of rtype) a one.first_type seen has other.0.rtype
      (subst (Shows setting query other.0.rtype) other.2 also) in
      let not_earlier : number_of other.0.rtype ≤ number_of seen.rtype =
      each_along (λ seen. (rtype : RrType) → Shows setting query rtype seen.fault → number_of seen.rtype ≤ number_of rtype) b two.first_type other.0 other.1 seen.rtype
      (subst (Shows setting query seen.rtype) (sym other.2) shows) in
      let rtype : other.0.rtype ≡ seen.rtype = one_type other.0.rtype seen.rtype (omega (arith, not_later, not_earlier)) in
      let same : other.0 ≡ seen =
      ap (λ (f : Fault). record { fault = f; rtype = other.0.rtype }) other.2 ∙ ap (λ (t : RrType). record { fault = seen.fault; rtype = t }) rtype in
      subst (Contains b) same other.1

  -- so there is one
  one_list : (a b : List Seen) → AreShownOf setting query (λ fault. true) a → AreShownOf setting query (λ fault. true) b → a ≡ b
  one_list a b one two =
      same_rising (λ (x y : Seen). fault_cmp x.fault y.fault) (on_total (λ (seen : Seen). seen.fault) faults_total) a b one.ordered two.ordered
      (has_too a b one two) (has_too b a two one)

module _ (config : Config) (rewrites states : ℕ) (query : Labels) where
  one_shown : (a b : List Seen) → AreFaultsOf config rewrites states query a → AreFaultsOf config rewrites states query b → a ≡ b
  one_shown a b one two = by (server_decided config rewrites states) where
    by : Decided (SomeServerPasses config rewrites states) → a ≡ b
    by (inl passes) = one.none_sought passes ∙ sym (two.none_sought passes)
    by (inr none) =
        let (followed, is) = some_in_force config rewrites in
        one_list (with_sets (following config rewrites followed)) query a b (one.sought none followed is) (two.sought none followed is)

  -- a class has one verdict
  pub one_verdict : (a b : ClassVerdict) → IsClassVerdict config rewrites states query a → IsClassVerdict config rewrites states query b → a ≡ b
  one_verdict StatesPassed StatesPassed one two = refl
  one_verdict StatesPassed (Faults b) one two = absurd (two.0 one)
  one_verdict (Faults a) StatesPassed one two = absurd (one.0 two)
  one_verdict (Faults a) (Faults b) one two = ap Faults (one_shown a b one.1 two.1)
