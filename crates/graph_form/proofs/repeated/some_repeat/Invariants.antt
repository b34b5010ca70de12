use Rattle.std.proofs.Common.{◌≡◌, drop}
use Rattle.graph_form.specs.Report.{repeats}
use Rattle.graph_form.proofs.repeated.some_repeat.Given as goal

-- whether two are the same is told by those that are left
abbrev pub invariant-loop-at : goal.invariant-loop-at
invariant-loop-at l = repeats l.states ≡ repeats (drop l.at l.states)
