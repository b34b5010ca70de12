use Rattle.std.proofs.Common.{◌≡◌}
use Rattle.dns_data.specs.Name.{Labels}
use Rattle.part_laws.specs.Part.{HasShorterUnnamed}
use Rattle.part_checks.specs.Claims.{last_octets}
use Rattle.part_checks.specs.Outside.{parent}
use Rattle.part_checks.specs.declared.fault.PartRule.TheVariants.{Short}
use Rattle.part_checks.proofs.Refusals.{refused_item}
use Rattle.part_checks.specs.Short.{HasShorter}
use Rattle.part_checks.proofs.Passing.{all_more, all_passed}
use Rattle.part_checks.proofs.limits.check_longer_all.Goals as goal

pub loop-name-preserved : goal.loop-name-preserved
loop-name-preserved c =
    all_more (HasShorter c.args.graph.now) c.args.outside.now c.loop-name.name-index c.name-item.result c.loop-name-test.true c.name-item.is c.loop-name.invariant c.in_ok-check_longer.ensures.longer

pub returns-clause-longer : goal.returns-clause-longer
returns-clause-longer c = all_passed (HasShorter c.args.graph.now) c.args.outside.now c.loop-name.name-index c.loop-name-test.false c.loop-name.invariant

pub returns-in_err-check_longer-clause-refused : goal.returns-in_err-check_longer-clause-refused
returns-in_err-check_longer-clause-refused c =
    refused_item (λ rule (name : Labels). Short ≡ rule → HasShorterUnnamed c.args.graph.now (parent name) (last_octets name)) c.args.outside.now c.loop-name.name-index c.name-item.result c.loop-name-test.true c.name-item.is
    c.from_residual.result c.in_err-check_longer.field-0.0 c.from_residual.ensures.1 c.in_err-check_longer.ensures.refused
