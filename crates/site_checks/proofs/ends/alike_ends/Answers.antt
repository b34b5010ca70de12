use Rattle.std.proofs.Common.{List, refl, ap, ◌∙◌, map}
use Rattle.std.specs.List.{fold}
use Rattle.site_checks.specs.AlikeEnds.{retyped}
use Rattle.site_checks.specs.Ends.{end_eq}
use Rattle.site_checks.specs.Once.{with_new}
use Rattle.site_checks.specs.PathEnds.{ends_with}
use Rattle.site_checks.specs.declared.views.TypedEnd.{TypedEnd}
use Rattle.site_checks.proofs.AlikeTypes.{once_alike}
use Rattle.site_checks.proofs.ends.alike_ends.Goals as goal

pub returns-clause-alike : goal.returns-clause-alike
returns-clause-alike c = λ other has.
    let graph = c.args.graph.now in
    ap (map (retyped other))
    (c.into_list.ensures ∙ c.in_ok-put_ends_with.ensures ∙ ap (λ (ends : List TypedEnd). fold (with_new end_eq) ends (ends_with graph c.args.rtype)) c.new-ends.ensures)
    ∙ once_alike graph c.args.rtype other (c.types_as.ensures other has)

pub returns-clause-own : goal.returns-clause-own
returns-clause-own c =
    let graph = c.args.graph.now in
    ap (map (retyped c.args.rtype))
    (c.into_list.ensures ∙ c.in_ok-put_ends_with.ensures ∙ ap (λ (ends : List TypedEnd). fold (with_new end_eq) ends (ends_with graph c.args.rtype)) c.new-ends.ensures)
    ∙ once_alike graph c.args.rtype c.args.rtype (λ at node is. refl)
