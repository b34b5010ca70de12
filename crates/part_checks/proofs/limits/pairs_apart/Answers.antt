use Rattle.std.proofs.Common.{◌≡◌, All}
use Rattle.dns_data.specs.Name.{Labels}
use Rattle.label_graph.specs.declared.pair.Pair.{Pair}
use Rattle.label_graph.specs.Pairs.{redirection}
use Rattle.part_checks.specs.Outside.{IsApart}
use Rattle.part_checks.specs.declared.fault.PartRule.TheVariants.{Apart}
use Rattle.part_checks.proofs.Refusals.{refused_item}
use Rattle.part_checks.proofs.Passing.{all_more, all_passed}
use Rattle.part_checks.proofs.limits.pairs_apart.Goals as goal

pub loop-pair-preserved : goal.loop-pair-preserved
loop-pair-preserved c =
    all_more (λ (pair : Pair). All (IsApart (redirection pair)) c.args.outside.now) c.args.pairs.now c.loop-pair.pair-index c.pair-item.result c.loop-pair-test.true c.pair-item.is
    c.loop-pair.invariant c.in_ok-pair_apart.ensures.apart

pub returns-clause-apart : goal.returns-clause-apart
returns-clause-apart c =
    all_passed (λ (pair : Pair). All (IsApart (redirection pair)) c.args.outside.now) c.args.pairs.now c.loop-pair.pair-index c.loop-pair-test.false c.loop-pair.invariant

pub returns-in_err-pair_apart-clause-refused : goal.returns-in_err-pair_apart-clause-refused
returns-in_err-pair_apart-clause-refused c =
    refused_item (λ rule (pair : Pair). All (λ (name : Labels). Apart ≡ rule → IsApart (redirection pair) name) c.args.outside.now) c.args.pairs.now c.loop-pair.pair-index c.pair-item.result c.loop-pair-test.true c.pair-item.is
    c.from_residual.result c.in_err-pair_apart.field-0.0 c.from_residual.ensures.1 c.in_err-pair_apart.ensures.refused
