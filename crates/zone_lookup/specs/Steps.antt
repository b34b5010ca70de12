-- The steps of a walk as the definitions say them.
use Rattle.net_model.specs.Step.{Branch, Go, End}
use Rattle.zone_lookup.specs.declared.steps.Step.{Step}
use Rattle.zone_lookup.specs.declared.steps.Step.TheVariants as step

-- the branch that a step is
abbrev pub branch_of : Step → Branch
branch_of (step.Go hop state) = Go hop state
branch_of (step.End hop leaf) = End hop leaf
