use Rattle.std.proofs.Common.{◌≡◌, Some, None, sym, ap, ◌∙◌}
use Rattle.graph_form.specs.FirstPath.{IsFirstAlong, branch_shows}
use Rattle.graph_form.specs.Graph.{path_along}
use Rattle.graph_form.proofs.Firsts.{whole_along}
use Rattle.graph_form.proofs.first_walks.first_walk.Goals as goal

pub unreachable-requires : goal.unreachable-requires
unreachable-requires c =
    let shows = branch_shows c.args.seen.now.fault c.args.walks.now in
    let graph = c.args.graph.now in
    let first : IsFirstAlong shows graph c.args.seen.now.rtype c.in-Some.path.items = rw c.in-Some.is at c.in_ok-path.ensures.found in
    let whole = whole_along c.requires.of_query.0 c.requires.of_query.1 graph c.args.seen.now.rtype c.requires.of_query.2 c.args.seen.now.fault c.args.walks.now
    c.in-Some.path.items first.takes in
    let found : path_along graph c.args.seen.now.rtype c.as_slice.result.now ≡ Some whole.0 =
    ap (path_along graph c.args.seen.now.rtype) c.as_slice.ensures.value ∙ whole.1 in
    let none : path_along graph c.args.seen.now.rtype c.as_slice.result.now ≡ None = sym c.in_ok-walk-in-Some.ensures ∙ c.in-None-2.is in
    cc
