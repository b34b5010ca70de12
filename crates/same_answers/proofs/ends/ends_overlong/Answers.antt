use Rattle.std.proofs.Common.{◌∙◌, false, sym}
use Rattle.std.proofs.lemmas.Option.{slice_get_within, get_or_from_slice_get}
use Rattle.dns_data.proofs.FirstItems.{any-next}
use Rattle.dns_data.proofs.Searches.{any_has}
use Rattle.graph_form.proofs.Places.{item_there}
use Rattle.same_answers.specs.Ends.{node_overlong}
use Rattle.same_answers.proofs.ends.ends_overlong.Goals as goal

pub returns-then-node_ends_overlong : goal.returns-then-node_ends_overlong
returns-then-node_ends_overlong c =
    let nodes = c.args.graph.now.nodes in
    let node = c.node.result.now in
    sym (any_has (node_overlong c.args.rtype) nodes node (item_there nodes c.loop-i.i node c.node.ensures)
    (sym c.node_ends_overlong.ensures ∙ c.if-node_ends_overlong.true))

pub loop-i-preserved : goal.loop-i-preserved
loop-i-preserved c =
    let nodes = c.args.graph.now.nodes in
    let node = c.node.result.now in
    sym (any-next (node_overlong c.args.rtype) nodes c.loop-i.i node false (slice_get_within nodes c.loop-i.i node c.node.ensures)
    (sym (get_or_from_slice_get nodes c.loop-i.i node node c.node.ensures)) (sym c.loop-i.invariant))
    ∙ (sym c.node_ends_overlong.ensures ∙ c.if-node_ends_overlong.false)
