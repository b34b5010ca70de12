use Rattle.std.proofs.Common.{◌≡◌, ◌+◌, ◌≤◌, All, List, length, take, subst, sym}
use Rattle.std.specs.Prelude.{IfErr}
use Rattle.dns_data.specs.declared.rdata.Rr.{Rr}
use Rattle.part_checks.specs.Claims.{rule_of}
use Rattle.part_checks.specs.Rules.{Refutes}
use Rattle.part_checks.specs.Targets.{IsLed}
use Rattle.part_checks.specs.declared.fault.PartRule.{PartRule}
use Rattle.part_checks.proofs.Refusals.{refused_item}
use Rattle.part_checks.proofs.Passing.{all_more, all_passed}
use Rattle.part_checks.proofs.targets.zone_leads.Goals as goal

pub returns-in_err-rr_leads-clause-refused : goal.returns-in_err-rr_leads-clause-refused
returns-in_err-rr_leads-clause-refused c =
    let P : PartRule → Rr → Type 0 = λ rule rr. rule_of rr.rdata ≡ rule → IsLed c.args.sets.now c.args.servers.now c.args.zone.now rr in
    subst (λ (l : List Rr). IfErr c.from_residual.result (Refutes (λ rule. All (P rule) l))) c.items-rr-items.ensures
    (refused_item P c.items-rr-items.result.now c.loop-rr.rr-index c.rr-item.result c.loop-rr-test.true c.rr-item.is
    c.from_residual.result c.in_err-rr_leads.field-0.0 c.from_residual.ensures.1 c.in_err-rr_leads.ensures.refused)

pub loop-rr-preserved : goal.loop-rr-preserved
loop-rr-preserved c =
    let P : Rr → Type 0 = IsLed c.args.sets.now c.args.servers.now c.args.zone.now in
    let k = c.loop-rr.rr-index in
    subst (λ (l : List Rr). All P (take (k + 1) l)) c.items-rr-items.ensures
    (all_more P c.items-rr-items.result.now k c.rr-item.result c.loop-rr-test.true c.rr-item.is
    (subst (λ (l : List Rr). All P (take k l)) (sym c.items-rr-items.ensures) c.loop-rr.invariant) c.in_ok-rr_leads.ensures.led)

pub returns-clause-led : goal.returns-clause-led
returns-clause-led c =
    all_passed (IsLed c.args.sets.now c.args.servers.now c.args.zone.now) c.args.zone.now.rrs c.loop-rr.rr-index
    (subst (λ (l : List Rr). length l ≤ c.loop-rr.rr-index) c.items-rr-items.ensures c.loop-rr-test.false) c.loop-rr.invariant
