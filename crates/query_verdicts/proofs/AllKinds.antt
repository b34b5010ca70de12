-- What a query shows of the kinds of rewrites and of the kinds of delegations is all that it shows.
use Rattle.std.proofs.Common.{◌≡◌, ◌≤◌, Bool, true, List, ◌++◌, Contains, refl, sym, subst, inl, inr}
use Rattle.std.specs.Prelude.{◌⊎◌, ◌↔◌}
use Rattle.std.proofs.lemmas.List.Elements.{Contains-append_cases, Contains-append_left, Contains-append_right}
use Rattle.dns_data.specs.Name.{Labels}
use Rattle.dns_data.specs.RrType.{number_of}
use Rattle.dns_data.specs.declared.rr_type.RrType.{RrType}
use Rattle.dns_data.proofs.Membership.{each_along, from_map}
use Rattle.delegation_checks.specs.Delegations.{is_of_delegations}
use Rattle.graph_form.specs.Verdict.{AreFirstTypes, AreShownOf, IsCovered}
use Rattle.graph_form.specs.declared.report.Seen.{Seen}
use Rattle.graph_form.proofs.Verdicts.{all_shown_of}
use Rattle.net_model.specs.declared.fault.Fault.{Fault}
use Rattle.net_model.specs.declared.fault.Fault.TheVariants as faults
use Rattle.net_model.specs.Shown.{FaultSetting, Shows}
use Rattle.rewrite_checks.specs.Rewrites.{is_of_rewrites}

-- a fault is of the one kind or of the other
either_kind : (fault : Fault) → (is_of_rewrites fault ≡ true) ⊎ (is_of_delegations fault ≡ true)
either_kind (faults.Lame cut) = inr refl
either_kind (faults.Differs cut) = inr refl
either_kind (faults.NoGlue cut) = inr refl
either_kind (faults.GlueDiffers cut) = inr refl
either_kind (faults.Cyclic cut) = inr refl
either_kind (faults.Limit place) = inl refl
either_kind (faults.Blackhole place) = inl refl
either_kind (faults.Answers class rtype) = inl refl
either_kind (faults.Overlong place) = inl refl
either_kind (faults.NoAddress cut) = inr refl

module _ (one other : FaultSetting) (query : Labels) (of_kind : Fault → Bool) (shown : List Seen) (are : AreShownOf one query of_kind shown)
    (there : (rtype : RrType) (fault : Fault) → Shows one query rtype fault → Shows other query rtype fault)
    (back : (rtype : RrType) (fault : Fault) → Shows other query rtype fault → Shows one query rtype fault) where
  -- each is shown
  shows_each : (seen : Seen) → Contains shown seen → Shows other query seen.rtype seen.fault
  shows_each seen has = there seen.rtype seen.fault (each_along (λ (s : Seen). Shows one query s.rtype s.fault) shown are.each_shown seen has)

  -- and each that is shown is covered
  covers_each : (rtype : RrType) (fault : Fault) → of_kind fault ≡ true → Shows other query rtype fault → IsCovered shown (record { fault = fault; rtype = rtype })
  covers_each rtype fault kind shows =
      let (seen, has, is) = from_map (λ (s : Seen). s.fault) shown fault (are.all_shown fault rtype kind (back rtype fault shows)) in
      record {
        by = seen;
        has = has;
        fault_is = is;
        not_later =
            each_along (λ (s : Seen). (t : RrType) → Shows one query t s.fault → number_of s.rtype ≤ number_of t) shown are.first_type seen has rtype
            (subst (Shows one query rtype) (sym is) (back rtype fault shows));
      }

module _ (lists sets : FaultSetting) (query : Labels)
    (same : (rtype : RrType) (fault : Fault) → Shows lists query rtype fault ↔ Shows sets query rtype fault)
    (of_rewrites of_delegations shown : List Seen)
    (rewrites_are : AreShownOf sets query is_of_rewrites of_rewrites)
    (delegations_are : AreShownOf lists query is_of_delegations of_delegations)
    (firsts : AreFirstTypes (of_rewrites ++ of_delegations) shown) where
  right : (seen : Seen) → Contains (of_rewrites ++ of_delegations) seen → Shows sets query seen.rtype seen.fault
  right seen has =
      elim (Contains-append_cases of_rewrites of_delegations seen has) [
        | inl first ↦ shows_each sets sets query is_of_rewrites of_rewrites rewrites_are (λ t f s. s) (λ t f s. s) seen first
        | inr second ↦ shows_each lists sets query is_of_delegations of_delegations delegations_are (λ t f s. (same t f).0 s) (λ t f s. (same t f).1 s) seen second
      ]

  collected : (rtype : RrType) (fault : Fault) → Shows sets query rtype fault → IsCovered (of_rewrites ++ of_delegations) (record { fault = fault; rtype = rtype })
  collected rtype fault shows =
      elim (either_kind fault) [
        | inl kind ↦ (
            let one = covers_each sets sets query is_of_rewrites of_rewrites rewrites_are (λ t f s. s) (λ t f s. s) rtype fault kind shows in
            record { by = one.by; has = Contains-append_left of_rewrites of_delegations one.by one.has; fault_is = one.fault_is; not_later = one.not_later })
        | inr kind ↦ (
            let one =
            covers_each lists sets query is_of_delegations of_delegations delegations_are (λ t f s. (same t f).0 s) (λ t f s. (same t f).1 s) rtype fault kind shows in
            record { by = one.by; has = Contains-append_right of_rewrites of_delegations one.by one.has; fault_is = one.fault_is; not_later = one.not_later })
      ]

  -- what is shown of rewrites and of delegations, first types taken, is all that the query shows
  pub all_kinds : AreShownOf sets query (λ fault. true) shown
  all_kinds = all_shown_of sets query (λ fault. true) (of_rewrites ++ of_delegations) shown firsts (λ seen has. refl) right (λ rtype fault kind shows. collected rtype fault shows)
