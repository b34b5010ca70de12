use Rattle.std.proofs.Common.{ℕ, Bool, List, sym, ap, ◌∙◌, subst, arith, length}
use Rattle.net_model.specs.Step.{following}
use Rattle.graph_form.specs.Graph.{PlainGraph, pairs_of}
use Rattle.graph_form.specs.GraphOf.{IsExactIn, IsGraphOf}
use Rattle.interp_graph.specs.Restricted.{AreLimited, shut}
use Rattle.interp_graph.proofs.Restricting.{no_more_pairs, restricted_exact, restricted_graph}
use Rattle.interp_graph.proofs.restriction.restrict.Goals as goal

pub limited_nodes-requires : goal.limited_nodes-requires
limited_nodes-requires c = ap (λ (sets : List (List Bool)). length sets) c.as_slice.ensures.value ∙ c.in_ok-sets.ensures.many

pub new-requires-clause-nodes : goal.new-requires-clause-nodes
new-requires-clause-nodes c = omega (arith, c.in_ok-nodes.ensures.many)

pub new-requires-clause-pairs : goal.new-requires-clause-pairs
new-requires-clause-pairs c =
    let built = c.requires.2 in
    let are = subst (λ (sets : List (List Bool)). AreLimited (shut c.args.hosts.now c.args.followed.now) c.in_ok-nodes.nodes sets c.args.graph.now.nodes)
    c.as_slice.ensures.value c.in_ok-nodes.ensures in
    let fewer = no_more_pairs c.args.hosts.now c.requires.0 c.args.followed.now c.requires.1 c.args.graph.now built.is_graph c.in_ok-sets.sets.items c.in_ok-sets.ensures
    c.in_ok-nodes.nodes are built.exact.one_node in
    let starts = ap (λ (starts : List ℕ). length (pairs_of (record { nodes = c.in_ok-nodes.nodes; starts = starts }))) (c.in_ok-starts.ensures ∙ c.starts.ensures) in
    omega (arith, fewer, starts, c.pairs.ensures)

pub returns-clause-graph : goal.returns-clause-graph
returns-clause-graph c = λ rewrites query built.
    let are = subst (λ (sets : List (List Bool)). AreLimited (shut c.args.hosts.now c.args.followed.now) c.in_ok-nodes.nodes sets c.args.graph.now.nodes)
    c.as_slice.ensures.value c.in_ok-nodes.ensures in
    let starts : List ℕ → PlainGraph = λ starts. record { nodes = c.in_ok-nodes.nodes; starts = starts } in
    subst (IsGraphOf (following c.args.hosts.now rewrites c.args.followed.now) query) (sym (c.new.ensures ∙ ap starts (c.in_ok-starts.ensures ∙ c.starts.ensures)))
    (restricted_graph c.args.hosts.now rewrites c.args.followed.now query c.args.graph.now built.is_graph c.in_ok-sets.sets.items c.in_ok-sets.ensures
    c.in_ok-nodes.nodes are)

pub returns-clause-exact : goal.returns-clause-exact
returns-clause-exact c = λ rewrites query built.
    let are = subst (λ (sets : List (List Bool)). AreLimited (shut c.args.hosts.now c.args.followed.now) c.in_ok-nodes.nodes sets c.args.graph.now.nodes)
    c.as_slice.ensures.value c.in_ok-nodes.ensures in
    let starts : List ℕ → PlainGraph = λ starts. record { nodes = c.in_ok-nodes.nodes; starts = starts } in
    subst (IsExactIn (following c.args.hosts.now rewrites c.args.followed.now) query) (sym (c.new.ensures ∙ ap starts (c.in_ok-starts.ensures ∙ c.starts.ensures)))
    (restricted_exact c.args.hosts.now rewrites c.args.followed.now query c.args.graph.now built.is_graph c.in_ok-sets.sets.items c.in_ok-sets.ensures
    c.in_ok-nodes.nodes are built.exact.one_node)
