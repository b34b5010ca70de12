use Rattle.std.proofs.Common.{◌≡◌}
use Rattle.dns_data.specs.Name.{Labels}
use Rattle.label_graph.specs.Pairs.{redirection}
use Rattle.part_checks.specs.Outside.{IsApart}
use Rattle.part_checks.specs.declared.fault.PartRule.TheVariants.{Apart}
use Rattle.part_checks.proofs.Refusals.{refused_item}
use Rattle.part_checks.proofs.Passing.{all_more, all_passed}
use Rattle.part_checks.proofs.limits.pair_apart.Goals as goal

pub loop-name-preserved : goal.loop-name-preserved
loop-name-preserved c =
    all_more (IsApart (redirection c.args.pair.now)) c.args.outside.now c.loop-name.name-index c.name-item.result c.loop-name-test.true c.name-item.is
    c.loop-name.invariant c.in_ok-name_apart.ensures.apart

pub returns-clause-apart : goal.returns-clause-apart
returns-clause-apart c = all_passed (IsApart (redirection c.args.pair.now)) c.args.outside.now c.loop-name.name-index c.loop-name-test.false c.loop-name.invariant

pub returns-in_err-name_apart-clause-refused : goal.returns-in_err-name_apart-clause-refused
returns-in_err-name_apart-clause-refused c =
    refused_item (λ rule (name : Labels). Apart ≡ rule → IsApart (redirection c.args.pair.now) name) c.args.outside.now c.loop-name.name-index c.name-item.result c.loop-name-test.true c.name-item.is
    c.from_residual.result c.in_err-name_apart.field-0.0 c.from_residual.ensures.1 c.in_err-name_apart.ensures.refused
