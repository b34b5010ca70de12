use Rattle.std.proofs.Common.{ap, sym, ◌∙◌}
use Rattle.dns_data.specs.First.{chosen}
use Rattle.dns_data.proofs.Distinct.{chosen-end}
use Rattle.part_checks.proofs.left.chosen.Goals as goal

pub returns : goal.returns
returns c =
    let loop = c.loop-is_chosen in
    c.from_vec.ensures
    ∙ (sym (chosen-end loop.others loop.left.items c.args.are_chosen.now loop.is_chosen-index c.loop-is_chosen-test.false)
    ∙ (sym loop.invariant
    ∙ ap (λ items. chosen items c.args.are_chosen.now) c.into_iter-others.ensures.into_iter_gives.0))
