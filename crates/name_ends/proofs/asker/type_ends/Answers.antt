use Rattle.std.proofs.Common.{List, Some, ap, ◌∙◌, rules}
use Rattle.net_model.specs.Step.{following}
use Rattle.plain_resolver.specs.declared.walk_end.WalkEnd.{WalkEnd}
use Rattle.name_ends.specs.Asked.{kinds_of}
use Rattle.name_ends.specs.declared.ends.TypeEnds.{TypeEnds}
use Rattle.name_ends.proofs.NameWalks.{ends_few, ends_many, kinds_among}
use Rattle.name_ends.proofs.asker.type_ends.Goals as goal

pub returns-in-Ok : goal.returns-in-Ok
returns-in-Ok c =
    let all = c.in-Ok.ensures.ends in
    ap (λ (ends : TypeEnds). Some ends) (c.kinds_of.ensures ∙ ap kinds_of (c.items.ensures ∙ all.2) ∙ kinds_among all.0)
    ∙ ends_few (following c.args.hosts.now c.args.rewrites c.args.followed.now) c.args.name.now c.args.rtype all.0 all.1 c.in-Ok.ensures.few

pub returns-in-Err-WalksPassed : goal.returns-in-Err-WalksPassed
returns-in-Err-WalksPassed c =
    ends_many (following c.args.hosts.now c.args.rewrites c.args.followed.now) c.args.name.now c.args.rtype (c.in-Err-WalksPassed.ensures.passed (search rules))
