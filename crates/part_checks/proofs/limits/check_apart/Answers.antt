use Rattle.std.proofs.Common.{◌≡◌, Bor, All}
use Rattle.dns_data.specs.Name.{Labels}
use Rattle.net_model.specs.Reading.{Redirection}
use Rattle.net_model.specs.declared.config.Zone.{Zone}
use Rattle.base_names.specs.Base.{zone_redirections}
use Rattle.part_checks.specs.Outside.{IsApart}
use Rattle.part_checks.specs.declared.fault.PartRule.TheVariants.{Apart}
use Rattle.part_checks.proofs.Refusals.{refused_item}
use Rattle.part_checks.proofs.Passing.{all_more, all_passed}
use Rattle.part_checks.proofs.limits.check_apart.Goals as goal

pub loop-zone-preserved : goal.loop-zone-preserved
loop-zone-preserved c =
    all_more (λ (zone : Bor Zone). All (λ (one : Redirection). All (IsApart one) c.args.outside.now) (zone_redirections zone.now)) c.args.zones.now c.loop-zone.zone-index c.zone-item.result
    c.loop-zone-test.true c.zone-item.is c.loop-zone.invariant c.in_ok-zone_apart.ensures.apart

pub returns-clause-apart : goal.returns-clause-apart
returns-clause-apart c =
    all_passed (λ (zone : Bor Zone). All (λ (one : Redirection). All (IsApart one) c.args.outside.now) (zone_redirections zone.now)) c.args.zones.now c.loop-zone.zone-index
    c.loop-zone-test.false c.loop-zone.invariant

pub returns-in_err-zone_apart-clause-refused : goal.returns-in_err-zone_apart-clause-refused
returns-in_err-zone_apart-clause-refused c =
    refused_item (λ rule (zone : Bor Zone). All (λ (one : Redirection). All (λ (name : Labels). Apart ≡ rule → IsApart one name) c.args.outside.now) (zone_redirections zone.now))
    c.args.zones.now c.loop-zone.zone-index c.zone-item.result c.loop-zone-test.true c.zone-item.is
    c.from_residual.result c.in_err-zone_apart.field-0.0 c.from_residual.ensures.1 c.in_err-zone_apart.ensures.refused
