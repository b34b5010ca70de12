use Rattle.std.proofs.Common.{◌<◌, ◌≤◌, [], length, sym, ◌∙◌, subst, arith}
use Rattle.std.proofs.lemmas.List.{take_all}
use Rattle.std.proofs.lemmas.Option.{get_or_from_slice_get}
use Rattle.graph_form.proofs.Places.{item_there}
use Rattle.graph_form.proofs.Verdicts.{put_more, put_all}
use Rattle.delegation_checks.proofs.FlaggedBranches.{node_seen, of_graph}
use Rattle.delegation_checks.proofs.cut_faults.cut_faults_of.Goals as goal

pub loop-number-init : goal.loop-number-init
loop-number-init c = λ deps table refers. c.new-seen.ensures

pub loop-number-preserved : goal.loop-number-preserved
loop-number-preserved c = λ deps table refers.
    let nodes = c.args.graph.now.nodes in
    let i = c.loop-number.number in
    let node = c.node.result.now in
    put_more (node_seen c.args.hosts.now deps) nodes i [] c.loop-number.seen (c.loop-number.invariant deps table refers)
    node c.put_node.new.seen (subst (λ n. i < n) c.nodes-number-end.ensures c.loop-number-test.true) (sym (get_or_from_slice_get nodes i node node c.node.ensures))
    (c.in_ok-put_node.ensures deps table (refers node (item_there nodes i node c.node.ensures)))

pub returns : goal.returns
returns c = λ deps table refers.
    let nodes = c.args.graph.now.nodes in
    let past : length nodes ≤ c.loop-number.number = omega (arith, c.loop-number-test.false, c.nodes-number-end.ensures) in
    put_all (node_seen c.args.hosts.now deps) nodes c.loop-number.number [] c.loop-number.seen (c.loop-number.invariant deps table refers)
    (take_all c.loop-number.number nodes past)
    ∙ of_graph c.args.hosts.now deps c.args.graph.now
