use Rattle.std.proofs.Common.{ap, sym, ◌∙◌}
use Rattle.net_model.specs.Step.{Setting}
use Rattle.name_ends.specs.Asked.{ends_in}
use Rattle.name_ends.proofs.asker.Asker.ends_of_walks.Goals as goal

pub returns-in-Some-clause-ends : goal.returns-in-Some-clause-ends
returns-in-Some-clause-ends c =
    c.self.invariant c.args.name.now c.in-Some.ends (sym (c.in-Some.ensures ∙ c.get.ensures.value))
    ∙ ap (λ (setting : Setting). ends_in setting c.args.name.now) c.self.view_is
