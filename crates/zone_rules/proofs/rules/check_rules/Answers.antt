use Rattle.std.proofs.Common.{◌≡◌, ◌⊎◌, ◌||◌, ◌+◌, ◌<◌, ℕ, Bool, true, List, length, map, take, drop, get_or, Result, Err, IfErr, IsErrAnd, refl, ap, sym, ◌∙◌, subst, inl, inr}
use Rattle.std.proofs.lemmas.List.Elements.{All-weaker}
use Rattle.std.proofs.lemmas.Result.{err_from_is_err_and}
use Rattle.std.proofs.lemmas.Simd.{map-map}
use Rattle.std.specs.Option.{option_or}
use Rattle.dns_data.specs.Name.{Labels}
use Rattle.dns_data.specs.declared.rdata.Rr.{Rr}
use Rattle.dns_data.specs.declared.rr_type.RrType.TheVariants as types
use Rattle.zone_rules.specs.Apex.{is_type}
use Rattle.zone_rules.specs.Before.{IsSummaryOf, fault_in}
use Rattle.zone_rules.specs.Buckets.{SaysRivals, TellsRivals}
use Rattle.zone_rules.specs.Fingerprint.{owner_number, owner_key}
use Rattle.zone_rules.specs.Rules.{first_fault_behind}
use Rattle.zone_rules.specs.ZoneOf.{checked, unless_faulty}
use Rattle.zone_rules.specs.declared.fault.RuleFault.{RuleFault}
use Rattle.zone_rules.specs.declared.fault.RuleFault.TheVariants.{NoMemory}
use Rattle.zone_rules.specs.declared.rules.Before.{Before}
use Rattle.zone_rules.proofs.FirstFaults.{before-next, fault-kept, fault-next}
use Rattle.zone_rules.proofs.Rivals.{rivals-before, said-next}
use Rattle.zone_rules.proofs.rules.check_rules.Goals as goal

-- whether a record of this owner may have a rival there
abbrev may_at : (ℕ → Bool) → Labels → Bool
may_at may owner = may (owner_number owner)

-- the next record's fault by what is kept of those before, or that of those behind it
next-fault : (origin : Labels) (rrs : List Rr) (i : ℕ) (rr : Rr) (kept : Before) (may : ℕ → Bool) (has_rival : Bool)
    → i < length rrs → rr ≡ get_or rrs i rr → TellsRivals may (map owner_key rrs) → IsSummaryOf (may_at may) kept (take i rrs) → has_rival ≡ may_at may rr.owner
    → first_fault_behind origin (take i rrs) (drop i rrs) ≡ option_or (fault_in kept has_rival origin rr) (first_fault_behind origin (take (i + 1) rrs) (drop (i + 1) rrs))
next-fault origin rrs i rr kept may has_rival below is tells stands says =
    fault-next origin rrs i rr (fault_in kept has_rival origin rr) below is
    (fault-kept (may_at may) kept (take i rrs) origin rr stands has_rival says
    (All-weaker
    (λ other. owner_number other.owner ≡ owner_number rr.owner → (is_type types.Cname other || is_type types.Cname rr) ≡ true → may_at may rr.owner ≡ true)
    (λ other. other.owner ≡ rr.owner → (is_type types.Cname other || is_type types.Cname rr) ≡ true → may_at may rr.owner ≡ true)
    (λ other rivals same. rivals (ap owner_number same)) (take i rrs) (rivals-before owner_key rrs i rr below is may tells)))

-- what holds of the fault that was met holds of that which is passed on
passed-on : {A : Type 0} (P : RuleFault → Type 0) (result : Result A RuleFault) (met : RuleFault) → IsErrAnd result (λ fault. fault ≡ met) → P met → IfErr result P
passed-on P result met is holds =
    let (fault, exit, same) = err_from_is_err_and result is in
    subst (λ answer. IfErr answer P) (sym exit) (subst P (sym same) holds)

pub loop-i-init : goal.loop-i-init
loop-i-init c =
    let keys : c.as_slice.result.now ≡ map owner_key c.args.rrs.now = c.as_slice.ensures.value ∙ c.in_ok-owners.ensures.keys in
    let (may, said, tells) = subst (SaysRivals c.in_ok-rivals.rivals.items) keys c.in_ok-rivals.ensures in
    record {
      stands = (may, said ∙ map-map (λ key. may key.0) owner_key c.args.rrs.now, tells, c.new-before.ensures (may_at may));
      so_far = refl;
    }

pub returns-in_err-check-clause-err : goal.returns-in_err-check-clause-err
returns-in_err-check-clause-err c =
    let (may, said, tells, stands) = c.loop-i.invariant.stands in
    let rr = c.index-rrs-i.result in
    let says : c.index.result.now ≡ may_at may rr.owner = said-next owner_key c.args.rrs.now c.loop-i.i rr c.loop-i-test.true c.index-rrs-i.is (λ other. may_at may other.owner) c.in_ok-rivals.rivals.items c.index.result.now said c.index.ensures in
    let next = next-fault c.args.origin.now c.args.rrs.now c.loop-i.i rr c.loop-i.before may c.index.result.now c.loop-i-test.true c.index-rrs-i.is tells stands says in
    let rest = first_fault_behind c.args.origin.now (take (c.loop-i.i + 1) c.args.rrs.now) (drop (c.loop-i.i + 1) c.args.rrs.now) in
    passed-on (λ fault. (fault ≡ NoMemory) ⊎ (checked c.args.origin.now c.args.rrs.now ≡ Err fault)) c.from_residual-in_err-check.result c.in_err-check.field-0.0 c.from_residual-in_err-check.ensures.1
    (elim c.in_err-check.ensures.err [
      | inl none ↦ inl none
      | inr met ↦ inr
          (ap (λ fault. unless_faulty fault c.args.origin.now c.args.rrs.now)
          (c.loop-i.invariant.so_far ∙ (next ∙ ap (λ fault. option_or fault rest) met)))
    ])

pub loop-i-preserved : goal.loop-i-preserved
loop-i-preserved c =
    let (may, said, tells, stands) = c.loop-i.invariant.stands in
    let rr = c.index-rrs-i.result in
    let i = c.loop-i.i in
    let says : c.index.result.now ≡ may_at may rr.owner = said-next owner_key c.args.rrs.now i rr c.loop-i-test.true c.index-rrs-i.is (λ other. may_at may other.owner) c.in_ok-rivals.rivals.items c.index.result.now said c.index.ensures in
    record {
      stands = (
        may,
        said,
        tells,
        subst (IsSummaryOf (may_at may) c.check.new.self) (before-next c.args.origin.now c.args.rrs.now i rr c.loop-i-test.true c.index-rrs-i.is)
            (c.in_ok-check.ensures.before (may_at may) (take i c.args.rrs.now) says stands),
      );
      so_far =
          c.loop-i.invariant.so_far
          ∙ (next-fault c.args.origin.now c.args.rrs.now i rr c.loop-i.before may c.index.result.now c.loop-i-test.true c.index-rrs-i.is tells stands says
          ∙ ap (λ fault. option_or fault (first_fault_behind c.args.origin.now (take (i + 1) c.args.rrs.now) (drop (i + 1) c.args.rrs.now))) c.in_ok-check.ensures.ok);
    }
