use Rattle.std.proofs.Common.{◌≡◌, Bor, All, subst}
use Rattle.dns_data.specs.declared.rdata.Rr.{Rr}
use Rattle.net_model.specs.declared.config.Config.{Config}
use Rattle.net_model.specs.declared.config.Zone.{Zone}
use Rattle.part_checks.specs.Claims.{rule_of}
use Rattle.part_checks.specs.Rules.{Refutes}
use Rattle.part_checks.specs.Targets.{IsLed}
use Rattle.part_checks.specs.declared.fault.PartRule.{PartRule}
use Rattle.part_checks.proofs.Refusals.{refused_item}
use Rattle.part_checks.proofs.Passing.{all_more, all_passed}
use Rattle.part_checks.proofs.targets.check_targets.Goals as goal

pub loop-zone-preserved : goal.loop-zone-preserved
loop-zone-preserved c =
    all_more (λ (zone : Bor Zone). All (IsLed c.args.sets.now c.args.config.now zone.now) zone.now.rrs) c.args.zones.now c.loop-zone.zone-index c.zone-item.result
    c.loop-zone-test.true c.zone-item.is c.loop-zone.invariant
    (subst (λ (config : Config). All (IsLed c.args.sets.now config c.zone-item.result.now) c.zone-item.result.now.rrs) c.in_ok-servers.ensures c.in_ok-zone_leads.ensures.led)

pub returns-clause-led : goal.returns-clause-led
returns-clause-led c =
    all_passed (λ (zone : Bor Zone). All (IsLed c.args.sets.now c.args.config.now zone.now) zone.now.rrs) c.args.zones.now c.loop-zone.zone-index c.loop-zone-test.false c.loop-zone.invariant

pub returns-in_err-zone_leads-clause-refused : goal.returns-in_err-zone_leads-clause-refused
returns-in_err-zone_leads-clause-refused c =
    let P : PartRule → Bor Zone → Type 0 = λ rule zone. All (λ (rr : Rr). rule_of rr.rdata ≡ rule → IsLed c.args.sets.now c.args.config.now zone.now rr) zone.now.rrs in
    refused_item P c.args.zones.now c.loop-zone.zone-index c.zone-item.result c.loop-zone-test.true c.zone-item.is
    c.from_residual-in_err-zone_leads.result c.in_err-zone_leads.field-0.0 c.from_residual-in_err-zone_leads.ensures.1
    (subst (λ (config : Config). Refutes (λ rule. All (λ (rr : Rr). rule_of rr.rdata ≡ rule → IsLed c.args.sets.now config c.zone-item.result.now rr) c.zone-item.result.now.rrs) c.in_err-zone_leads.field-0.0)
    c.in_ok-servers.ensures c.in_err-zone_leads.ensures.refused)
