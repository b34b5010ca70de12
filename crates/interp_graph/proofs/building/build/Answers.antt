use Rattle.std.proofs.Common.{length, refl, sym, ap, subst, arith}
use Rattle.dns_data.specs.declared.rr_type.RrType.TheVariants as rr
use Rattle.name_rules.specs.SymName.{whole}
use Rattle.net_model.specs.Nearest.{server_names}
use Rattle.net_model.specs.Step.{following}
use Rattle.graph_form.specs.Graph.{PlainGraph, pairs_of}
use Rattle.graph_form.specs.GraphOf.{IsExact, IsGraphOf}
use Rattle.interp_graph.specs.Listed.{every}
use Rattle.interp_graph.proofs.Built.{asked_short, begun_located, built_exact, built_few, built_graph, built_pairs, first_come, first_passed, rest_passed, started_come, started_located}
use Rattle.interp_graph.proofs.Located.{all_located}
use Rattle.interp_graph.proofs.Finished.{few_nodes}
use Rattle.interp_graph.proofs.OpenNames.{stands_for, reaches_most}
use Rattle.interp_graph.proofs.Passing.{passed_on}
use Rattle.interp_graph.proofs.building.build.Goals as goal

pub first_states-requires : goal.first_states-requires
first_states-requires c = asked_short c.args.hosts.now c.args.name.now c.requires

pub follow_all-requires-clause-located : goal.follow_all-requires-clause-located
follow_all-requires-clause-located c =
    started_located c.following_all-walker.result c.in_ok-begin.begin c.new-states.result c.numbered.new.states c.new-states.ensures
    (begun_located c.args.hosts.now c.args.rewrites (whole c.args.name.now) c.following_all-walker.result c.following_all-walker.ensures c.in_ok-begin.begin c.in_ok-begin.ensures)
    c.in_ok-starts.ensures.lists.adds

pub follow_rest-requires-clause-located : goal.follow_rest-requires-clause-located
follow_rest-requires-clause-located c =
    all_located c.following_all-walker.result every rr.A refl c.numbered.new.states c.follow_all.new.states
    (started_located c.following_all-walker.result c.in_ok-begin.begin c.new-states.result c.numbered.new.states c.new-states.ensures
    (begun_located c.args.hosts.now c.args.rewrites (whole c.args.name.now) c.following_all-walker.result c.following_all-walker.ensures c.in_ok-begin.begin c.in_ok-begin.ensures)
    c.in_ok-starts.ensures.lists.adds)
    c.in_ok-early.ensures.lists.adds

pub returns-in_err-starts-clause-passed : goal.returns-in_err-starts-clause-passed
returns-in_err-starts-clause-passed c = λ is.
    let passes = c.in_err-starts.ensures.passed (passed_on c.from_residual-in_err-starts.result c.in_err-starts.field-0.0 _ c.from_residual-in_err-starts.ensures.1 is _ refl) in
    first_passed c.args.hosts.now c.args.rewrites (whole c.args.name.now) c.following_all-walker.ensures c.in_ok-begin.ensures c.args.limit
    c.most_of_all-most.ensures.passed passes (started_come c.following_all-walker.result c.new-states.ensures passes.adds)

pub returns-in_err-early-clause-passed : goal.returns-in_err-early-clause-passed
returns-in_err-early-clause-passed c = λ is.
    let passes = c.in_err-early.ensures.passed (passed_on c.from_residual-in_err-early.result c.in_err-early.field-0.0 _ c.from_residual-in_err-early.ensures.1 is _ refl) in
    first_passed c.args.hosts.now c.args.rewrites (whole c.args.name.now) c.following_all-walker.ensures c.in_ok-begin.ensures c.args.limit
    c.most_of_all-most.ensures.passed passes (first_come c.following_all-walker.result c.new-states.ensures c.in_ok-starts.ensures.lists.adds passes.adds)

pub returns-in_err-arms-clause-passed : goal.returns-in_err-arms-clause-passed
returns-in_err-arms-clause-passed c = λ is.
    rest_passed c.args.hosts.now c.args.rewrites (whole c.args.name.now) c.following_all-walker.ensures c.in_ok-begin.ensures c.new-states.ensures
    c.in_ok-starts.ensures.lists.adds c.in_ok-early.ensures.lists.adds c.args.limit
    (λ many more. omega (arith, c.most_with_rest-most.ensures.passed many more, c.len.ensures.many))
    (c.in_err-arms.ensures.passed (passed_on c.from_residual-in_err-arms.result c.in_err-arms.field-0.0 _ c.from_residual-in_err-arms.ensures.1 is _ refl))

pub graph_of-requires-clause-nodes : goal.graph_of-requires-clause-nodes
graph_of-requires-clause-nodes c =
    omega (arith, few_nodes c.follow_rest.new.states c.in_ok-arms.arms, c.in_ok-arms.ensures.lists.few, c.most_with_rest-most.ensures.within, c.ranges.limit.fits)

pub graph_of-requires-clause-pairs : goal.graph_of-requires-clause-pairs
graph_of-requires-clause-pairs c =
    let few = built_pairs c.args.hosts.now c.args.rewrites (whole c.args.name.now) c.following_all-walker.ensures c.in_ok-begin.ensures c.new-states.ensures
    c.in_ok-starts.ensures.lists.adds c.in_ok-early.ensures.lists.adds c.in_ok-arms.ensures.lists.adds c.in_ok-arms.ensures.once c.in_ok-arms.ensures.nodes c.in_ok-starts.starts c.in_ok-starts.ensures.told c.args.limit
    (omega (arith, c.in_ok-arms.ensures.lists.few, c.most_with_rest-most.ensures.within, c.len.ensures.many)) in
    omega (arith, few, c.ranges.limit.fits)

pub returns-clause-graph : goal.returns-clause-graph
returns-clause-graph c =
    subst (IsGraphOf (following c.args.hosts.now c.args.rewrites (server_names c.args.hosts.now)) (whole c.args.name.now)) (sym c.in_ok-graph_of.ensures)
    (built_graph c.args.hosts.now c.args.rewrites (whole c.args.name.now) c.following_all-walker.ensures c.in_ok-begin.ensures c.new-states.ensures
    c.in_ok-starts.ensures.lists.adds c.in_ok-early.ensures.lists.adds c.in_ok-arms.ensures.lists.adds c.in_ok-arms.ensures.once c.in_ok-arms.ensures.nodes c.in_ok-starts.starts c.in_ok-starts.ensures.told)

pub returns-clause-exact : goal.returns-clause-exact
returns-clause-exact c =
    subst (IsExact c.args.hosts.now c.args.rewrites (whole c.args.name.now)) (sym c.in_ok-graph_of.ensures)
    (built_exact c.args.hosts.now c.args.rewrites (whole c.args.name.now) c.following_all-walker.ensures c.in_ok-begin.ensures c.new-states.ensures
    c.in_ok-starts.ensures.lists.adds c.in_ok-early.ensures.lists.adds c.in_ok-arms.ensures.lists.adds c.in_ok-arms.ensures.once c.in_ok-arms.ensures.nodes c.in_ok-starts.starts c.in_ok-starts.ensures.told)

pub returns-clause-pairs : goal.returns-clause-pairs
returns-clause-pairs c =
    let few = built_pairs c.args.hosts.now c.args.rewrites (whole c.args.name.now) c.following_all-walker.ensures c.in_ok-begin.ensures c.new-states.ensures
    c.in_ok-starts.ensures.lists.adds c.in_ok-early.ensures.lists.adds c.in_ok-arms.ensures.lists.adds c.in_ok-arms.ensures.once c.in_ok-arms.ensures.nodes c.in_ok-starts.starts c.in_ok-starts.ensures.told c.args.limit
    (omega (arith, c.in_ok-arms.ensures.lists.few, c.most_with_rest-most.ensures.within, c.len.ensures.many)) in
    omega (arith, few, ap (λ (graph : PlainGraph). length (pairs_of graph)) c.in_ok-graph_of.ensures)

pub returns-clause-few : goal.returns-clause-few
returns-clause-few c =
    built_few c.args.hosts.now c.args.rewrites (whole c.args.name.now) c.in_ok-graph_of.field-0 c.args.limit
    (returns-clause-graph c) (returns-clause-exact c) (returns-clause-pairs c)

pub returns-clause-stands_for : goal.returns-clause-stands_for
returns-clause-stands_for c = stands_for c.args.hosts.now c.args.name.now c.requires

pub returns-clause-reaches_most : goal.returns-clause-reaches_most
returns-clause-reaches_most c = reaches_most c.args.hosts.now c.args.rewrites c.args.name.now c.args.limit c.requires
