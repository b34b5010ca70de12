use Rattle.std.proofs.Common.{Bool, [], None, cond, ap, ◌∙◌}
use Rattle.map_run.specs.NameLists.{listed_at}
use Rattle.map_run.proofs.ListedNames.{listed_by}
use Rattle.map_run.proofs.name_lists.take_listed.Goals as goal

pub returns-in-Some-clause-others : goal.returns-in-Some-clause-others
returns-in-Some-clause-others g c = λ other differs.
    listed_by c.args.name.now other None c.args.lists.now c.remove.new.self (c.remove.ensures.updates.0 other)
    ∙ ap (λ (b : Bool). cond b [] (listed_at c.args.lists.now other)) differs
