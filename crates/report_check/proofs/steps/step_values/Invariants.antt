use Rattle.std.proofs.Common.{◌≡◌, map, take}
use Rattle.serde_json.specs.View.{view}
use Rattle.report_check.proofs.steps.step_values.Given as goal

-- the values of the steps so far
abbrev pub invariant-loop-value : goal.invariant-loop-value
invariant-loop-value l = map (λ step. view step.value.now) l.values.items ≡ map view (take l.value-index l.steps)
