use Rattle.std.proofs.Common.{◌≡◌, ◌<◌, false, length, sym, ap, ◌∙◌, subst, arith}
use Rattle.std.specs.Prelude.{◌||◌, Some, slice_get}
use Rattle.std.proofs.lemmas.Option.{slice_get_within}
use Rattle.graph_form.specs.FirstPath.{branch_shows, is_to_follow}
use Rattle.graph_form.specs.Graph.{branches_of}
use Rattle.graph_form.specs.declared.node.Node.{Node}
use Rattle.graph_form.proofs.PassedBranches.{none_passes_more}
use Rattle.graph_form.proofs.Paths.{same_item}
use Rattle.graph_form.proofs.first_path.next_branch.Goals as goal

pub loop-number-preserved : goal.loop-number-preserved
loop-number-preserved c =
    none_passes_more (λ branch. is_to_follow c.args.met.now (c.args.turn.taken || branch_shows c.args.fault.now c.args.walks.now c.in_ok-node.node.now.state branch) branch)
    c.branches-branches.result.now c.args.turn.number c.loop-number.number c.index-branches-number.result c.index-branches-number.is
    (ap (λ taken. is_to_follow c.args.met.now taken c.index-branches-number.result) (sym c.is_taken-taken.ensures) ∙ (sym c.is_to_follow.ensures ∙ c.if-is_to_follow.false))
    c.loop-number.invariant

pub returns-clause-passed : goal.returns-clause-passed
returns-clause-passed c number node branch low none has =
    let same : c.in_ok-node.node.now ≡ node =
    same_item (slice_get c.args.graph.now.nodes c.args.turn.node) c.in_ok-node.node.now node (sym c.in_ok-node.ensures) has.here in
    let there : slice_get c.branches-branches.result.now number ≡ Some branch =
    ap (λ branches. slice_get branches number) c.branches-branches.ensures
    ∙ (ap (λ (n : Node). slice_get (branches_of n c.args.rtype) number) same ∙ has.there) in
    let within : number < length c.branches-branches.result.now = slice_get_within c.branches-branches.result.now number branch there in
    subst (λ (n : Node). is_to_follow c.args.met.now (c.args.turn.taken || branch_shows c.args.fault.now c.args.walks.now n.state branch) branch ≡ false) same
    (c.loop-number.invariant number branch low (omega arith) there)
