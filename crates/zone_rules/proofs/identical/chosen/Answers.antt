use Rattle.std.proofs.Common.{ap, sym, ◌∙◌}
use Rattle.dns_data.specs.First.{chosen}
use Rattle.dns_data.proofs.Distinct.{chosen-end}
use Rattle.zone_rules.proofs.identical.chosen.Goals as goal

pub returns : goal.returns
returns c =
    let loop = c.loop-is_chosen in
    sym (chosen-end loop.left loop.kept c.args.are_chosen.now loop.is_chosen-index c.loop-is_chosen-test.false)
    ∙ (sym loop.invariant
    ∙ ap (λ items. chosen items c.args.are_chosen.now) c.into_iter-left.ensures.into_iter_gives.0)
