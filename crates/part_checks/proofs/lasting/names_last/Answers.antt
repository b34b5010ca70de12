use Rattle.std.proofs.Common.{◌≡◌, true}
use Rattle.dns_data.specs.Name.{Labels}
use Rattle.net_model.specs.Zone.{exists_in}
use Rattle.part_checks.specs.Outside.{parent}
use Rattle.part_checks.specs.declared.fault.PartRule.TheVariants.{Exists}
use Rattle.part_checks.proofs.Refusals.{refused_item}
use Rattle.part_checks.proofs.Passing.{all_more, all_passed}
use Rattle.part_checks.proofs.lasting.names_last.Goals as goal

pub loop-name-preserved : goal.loop-name-preserved
loop-name-preserved c =
    all_more (λ (name : Labels). exists_in c.args.tree.now.zone (parent name) ≡ true) c.args.outside.now c.loop-name.name-index c.name-item.result c.loop-name-test.true c.name-item.is
    c.loop-name.invariant c.in_ok-name_lasts.ensures.lasting

pub returns-clause-lasting : goal.returns-clause-lasting
returns-clause-lasting c =
    all_passed (λ (name : Labels). exists_in c.args.tree.now.zone (parent name) ≡ true) c.args.outside.now c.loop-name.name-index c.loop-name-test.false c.loop-name.invariant

pub returns-in_err-name_lasts-clause-refused : goal.returns-in_err-name_lasts-clause-refused
returns-in_err-name_lasts-clause-refused c =
    refused_item (λ rule (name : Labels). Exists ≡ rule → exists_in c.args.tree.now.zone (parent name) ≡ true) c.args.outside.now c.loop-name.name-index c.name-item.result c.loop-name-test.true c.name-item.is
    c.from_residual.result c.in_err-name_lasts.field-0.0 c.from_residual.ensures.1 c.in_err-name_lasts.ensures.refused
