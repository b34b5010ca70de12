use Rattle.zone_lookup.specs.Steps.{branch_of}
use Rattle.zone_lookup.specs.declared.steps.Step.{Step}
use Rattle.interp_graph.specs.Listed.{StepGoes}
use Rattle.interp_graph.specs.Making.{TellsStep}
use Rattle.interp_graph.proofs.Listing.{ListedSoFar}
use Rattle.interp_graph.proofs.following.branches.Given as goal

-- the branches of the steps so far
abbrev pub invariant-loop-step : goal.invariant-loop-step
invariant-loop-step l =
    ListedSoFar (λ (step : Step). StepGoes (branch_of step)) (λ states branch (step : Step). TellsStep states branch (branch_of step)) l.most l.fn.steps
    l.step-iterator l.branches.items l.fn.states l.states
