use Rattle.std.proofs.Common.{◌+◌, ◌∷◌, ◌++◌, [], List, take, sym, ap, ◌∙◌, subst}
use Rattle.std.specs.List.{AllZip}
use Rattle.std.proofs.lemmas.List.{take_more}
use Rattle.std.proofs.lemmas.Slice.Zip.{all_zipped_more}
use Rattle.graph_form.specs.declared.node.Branch.{Branch}
use Rattle.address_deps.specs.Giving.{IsTurnOf}
use Rattle.address_deps.specs.declared.addresses.Turn.{Turn}
use Rattle.address_deps.proofs.paths.turns.Goals as goal

pub loop-branch-preserved : goal.loop-branch-preserved
loop-branch-preserved c =
    let is_turn = IsTurnOf c.args.hosts.now in
    let branches = c.args.branches.now in
    let i = c.loop-branch.branch-index in
    let branch = c.branch-item.result in
    let turns = c.loop-branch.turns.items in
    subst (λ (all : List Turn). AllZip is_turn (take (i + 1) branches) all) (sym c.in_ok-push.ensures.items)
    (subst (λ (all : List Branch). AllZip is_turn all (turns ++ c.turn.result ∷ []))
    (sym (take_more branches i branch c.loop-branch-test.true ∙ ap (λ (b : Branch). take i branches ++ b ∷ []) (sym c.branch-item.is)))
    (all_zipped_more is_turn (take i branches) turns branch c.turn.result c.loop-branch.invariant c.turn.ensures))
