use Rattle.std.proofs.Common.{List, ◌++◌, map, ap, ◌∙◌}
use Rattle.std.proofs.lemmas.Result.{on_ok_weaker}
use Rattle.site_checks.specs.AlikeEnds.{retyped}
use Rattle.site_checks.specs.declared.views.TypedEnd.{TypedEnd}
use Rattle.site_checks.proofs.AlikeTypes.{known_again}
use Rattle.site_checks.proofs.ends.put_type.Goals as goal

pub returns-in-Some-clause-ends : goal.returns-in-Some-clause-ends
returns-in-Some-clause-ends c =
    on_ok_weaker c.put_again.result
    (λ put.
    put
    ∙ ap (λ (more : List TypedEnd). c.args.ends.now ++ more) (ap (map (retyped c.args.rtype)) c.items-in-Some.ensures
    ∙ known_again c.args.graph.now c.args.rtype c.args.known.now c.items.result.now c.in-Some.alike.now c.requires.known c.items.ensures c.in-Some.ensures))
    c.put_again.ensures
