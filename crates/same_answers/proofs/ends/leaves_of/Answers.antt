use Rattle.std.proofs.Common.{List, [], map, Bor, sym}
use Rattle.std.proofs.lemmas.Option.{slice_get_within, get_or_from_slice_get}
use Rattle.net_model.specs.declared.walk.Leaf.{Leaf}
use Rattle.graph_form.proofs.Verdicts.{put_more}
use Rattle.same_answers.specs.Ends.{node_leaves}
use Rattle.same_answers.proofs.ends.leaves_of.Goals as goal

abbrev leaves : List (Bor Leaf) → List Leaf
leaves ends = map (λ (leaf : Bor Leaf). leaf.now) ends

pub loop-i-preserved : goal.loop-i-preserved
loop-i-preserved c =
    let nodes = c.args.graph.now.nodes in
    let node = c.node.result.now in
    put_more (node_leaves c.args.rtype) nodes c.loop-i.i [] (leaves c.loop-i.ends.items) c.loop-i.invariant
    node (leaves c.put_ends.new.ends.items) (slice_get_within nodes c.loop-i.i node c.node.ensures)
    (sym (get_or_from_slice_get nodes c.loop-i.i node node c.node.ensures)) c.in_ok-put_ends.ensures
