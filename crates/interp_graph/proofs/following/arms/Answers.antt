use Rattle.std.proofs.Common.{List, refl, subst, sym}
use Rattle.graph_form.specs.declared.node.Arm.{Arm}
use Rattle.interp_graph.specs.Listed.{ForkGoes}
use Rattle.interp_graph.specs.Making.{IsArmOf}
use Rattle.interp_graph.specs.declared.step.Fork.{Fork}
use Rattle.interp_graph.proofs.ForksFollowed.{arm_on}
use Rattle.interp_graph.proofs.Listing.{ListedSoFar, listed_more, listed_passed}
use Rattle.interp_graph.proofs.Passing.{passed_on}
use Rattle.interp_graph.proofs.following.arms.Goals as goal

pub returns-in_err-branches-clause-passed : goal.returns-in_err-branches-clause-passed
returns-in_err-branches-clause-passed c =
    let so = subst (λ (left : List Fork). ListedSoFar ForkGoes IsArmOf c.args.most c.args.forks left c.loop-fork.arms.items c.args.states.now c.loop-fork.states)
    c.in-Some.ensures.steps c.loop-fork.invariant in
    λ is. listed_passed ForkGoes IsArmOf c.args.most c.args.forks c.next.new.self c.loop-fork.arms.items c.in-Some.fork c.args.states.now c.loop-fork.states so
    (c.in_err-branches.ensures.passed (passed_on c.from_residual-in_err-branches.result c.in_err-branches.field-0.0 _ c.from_residual-in_err-branches.ensures.1 is _ refl))

pub loop-fork-preserved : goal.loop-fork-preserved
loop-fork-preserved c =
    let so = subst (λ (left : List Fork). ListedSoFar ForkGoes IsArmOf c.args.most c.args.forks left c.loop-fork.arms.items c.args.states.now c.loop-fork.states)
    c.in-Some.ensures.steps c.loop-fork.invariant in
    subst (λ (arms : List Arm). ListedSoFar ForkGoes IsArmOf c.args.most c.args.forks c.next.new.self arms c.args.states.now c.branches.new.states) (sym {A = List Arm} c.in_ok-push.ensures.items)
    (listed_more ForkGoes IsArmOf c.args.most c.args.forks c.next.new.self c.loop-fork.arms.items c.in-Some.fork c.args.states.now c.loop-fork.states so
    c.branches.new.states (record { types = c.in-Some.fork.types; branches = c.in_ok-branches.branches }) (arm_on c.in_ok-branches.ensures.lists.adds) c.in_ok-branches.ensures.lists
    (record { types = refl; told = c.in_ok-branches.ensures.told }))
