use Rattle.std.proofs.Common.{◌≡◌, refl, ap, ◌∙◌}
use Rattle.net_model.specs.Step as step
use Rattle.net_model.specs.declared.walk.Hop.{Hop}
use Rattle.net_model.specs.declared.walk.State.{State}
use Rattle.zone_lookup.specs.Steps.{branch_of}
use Rattle.zone_lookup.specs.declared.steps.Step.{Step}
use Rattle.zone_lookup.specs.declared.steps.Step.TheVariants.{Go}
use Rattle.interp_graph.specs.Listed.{StepGoes}
use Rattle.interp_graph.proofs.Listing.{lists_as, passes_as}
use Rattle.interp_graph.proofs.Passing.{passed_on}
use Rattle.interp_graph.proofs.following.branch.Goals as goal

-- the step goes to its state
goes : (one : Step) (hop : Hop) (state : State) → one ≡ Go hop state → (to : State) → state ≡ to → StepGoes (branch_of one) to
goes one hop state is to same = (hop, ap branch_of is ∙ ap (λ (s : State). step.Go hop s) same)

pub returns-in_err-to-in-Go-clause-passed : goal.returns-in_err-to-in-Go-clause-passed
returns-in_err-to-in-Go-clause-passed c = λ is.
    passes_as c.args.most (goes c.args.step c.in-Go.hop c.in-Go.state c.in-Go.is) c.args.states.now
    (c.in_err-to-in-Go.ensures.passed (passed_on c.from_residual.result c.in_err-to-in-Go.field-0.0 _ c.from_residual.ensures.1 is _ refl))

pub returns-in_ok-to-in-Go-clause-lists : goal.returns-in_ok-to-in-Go-clause-lists
returns-in_ok-to-in-Go-clause-lists c =
    lists_as c.args.most (goes c.args.step c.in-Go.hop c.in-Go.state c.in-Go.is) c.args.states.now c.reach.new.states c.in_ok-to-in-Go.ensures.lists
