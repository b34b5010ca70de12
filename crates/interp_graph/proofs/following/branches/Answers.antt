use Rattle.std.proofs.Common.{List, refl, subst, sym}
use Rattle.net_model.specs.declared.walk.State.{State}
use Rattle.graph_form.specs.declared.node.Branch.{Branch}
use Rattle.zone_lookup.specs.Steps.{branch_of}
use Rattle.zone_lookup.specs.declared.steps.Step.{Step}
use Rattle.interp_graph.specs.Listed.{StepGoes}
use Rattle.interp_graph.specs.Making.{TellsStep}
use Rattle.interp_graph.proofs.ForksFollowed.{tells_on}
use Rattle.interp_graph.proofs.Listing.{ListedSoFar, listed_more, listed_passed}
use Rattle.interp_graph.proofs.Passing.{passed_on}
use Rattle.interp_graph.proofs.following.branches.Goals as goal

-- to which states a step goes, and what a branch tells of it
abbrev Is : Step → State → Type 0
Is step = StepGoes (branch_of step)

abbrev IsMade : List State → Branch → Step → Type 0
IsMade states branch step = TellsStep states branch (branch_of step)

pub returns-in_err-branch-clause-passed : goal.returns-in_err-branch-clause-passed
returns-in_err-branch-clause-passed c =
    let so = subst (λ (left : List Step). ListedSoFar Is IsMade c.args.most c.args.steps left c.loop-step.branches.items c.args.states.now c.loop-step.states)
    c.in-Some.ensures.steps c.loop-step.invariant in
    λ is. listed_passed Is IsMade c.args.most c.args.steps c.next.new.self c.loop-step.branches.items c.in-Some.step c.args.states.now c.loop-step.states so
    (c.in_err-branch.ensures.passed (passed_on c.from_residual-in_err-branch.result c.in_err-branch.field-0.0 _ c.from_residual-in_err-branch.ensures.1 is _ refl))

pub loop-step-preserved : goal.loop-step-preserved
loop-step-preserved c =
    let so = subst (λ (left : List Step). ListedSoFar Is IsMade c.args.most c.args.steps left c.loop-step.branches.items c.args.states.now c.loop-step.states)
    c.in-Some.ensures.steps c.loop-step.invariant in
    subst (λ (branches : List Branch). ListedSoFar Is IsMade c.args.most c.args.steps c.next.new.self branches c.args.states.now c.branch-alloc.new.states) (sym {A = List Branch} c.in_ok-push.ensures.items)
    (listed_more Is IsMade c.args.most c.args.steps c.next.new.self c.loop-step.branches.items c.in-Some.step c.args.states.now c.loop-step.states so
    c.branch-alloc.new.states c.in_ok-branch.field-0 (λ branch step. tells_on c.in_ok-branch.ensures.lists.adds branch (branch_of step))
    c.in_ok-branch.ensures.lists c.in_ok-branch.ensures.told)
