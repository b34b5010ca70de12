use Rattle.std.proofs.Common.{◌-◌, All}
use Rattle.report_run.proofs.LiveNexts.{HasLiveSet}
use Rattle.report_run.proofs.bounds.count_below.Given as goal

-- each of those that wait has the live set of a name
abbrev pub invariant-loop-next : goal.invariant-loop-next
invariant-loop-next l = All (HasLiveSet l.graph) l.waiting.items

abbrev pub decreases-loop-next : goal.decreases-loop-next
decreases-loop-next l = l.most - l.counted
