use Rattle.std.proofs.Common.{◌<◌, ◌+◌, ◌∷◌, ◌++◌, [], List, length, take, sym, ap, ◌∙◌, subst, arith}
use Rattle.std.specs.List.{AllZip}
use Rattle.std.proofs.lemmas.List.{take_more}
use Rattle.std.proofs.lemmas.Option.{get_or_from_slice_get}
use Rattle.std.proofs.lemmas.Slice.Zip.{all_zipped_more}
use Rattle.graph_form.specs.Graph.{branches_of}
use Rattle.graph_form.specs.declared.node.Branch.{Branch}
use Rattle.graph_form.specs.declared.node.Node.{Node}
use Rattle.address_deps.specs.Giving.{IsTurnOf}
use Rattle.address_deps.specs.declared.addresses.Turn.{Turn}
use Rattle.address_deps.proofs.paths.turns_of.Goals as goal

pub loop-at-preserved : goal.loop-at-preserved
loop-at-preserved c =
    let is_turn = IsTurnOf c.args.hosts.now in
    let are = λ (node : Node) (turns : List Turn). AllZip is_turn (branches_of node c.args.rtype) turns in
    let nodes = c.args.graph.now.nodes in
    let at = c.loop-at.at in
    let node = c.node.result.now in
    let turns = c.in_ok-turns.field-0 in
    let less : at < length nodes = omega (arith, c.loop-at-test.true, c.nodes-at-end.ensures) in
    subst (λ (all : List (List Turn)). AllZip are (take (at + 1) nodes) all) (sym c.in_ok-push.ensures.ok)
    (subst (λ (all : List Node). AllZip are all (c.loop-at.nodes ++ turns ∷ []))
    (sym (take_more nodes at node less ∙ ap (λ (n : Node). take at nodes ++ n ∷ []) (get_or_from_slice_get nodes at node node c.node.ensures)))
    (all_zipped_more are (take at nodes) c.loop-at.nodes node turns c.loop-at.invariant
    (subst (λ (branches : List Branch). AllZip is_turn branches turns) c.branches.ensures c.in_ok-turns.ensures)))
