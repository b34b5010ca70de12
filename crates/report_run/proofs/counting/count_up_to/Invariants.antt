use Rattle.std.proofs.Common.{◌-◌, ◌≤◌}
use Rattle.report_run.proofs.PassedNames.{ArePassed}
use Rattle.report_run.proofs.counting.count_up_to.Given as goal

-- so many names were passed, no more than may be
abbrev pub invariant-loop-next : goal.invariant-loop-next
invariant-loop-next l = record {
  passed : ArePassed l.graph l.counted l.waiting.items;
  few : l.counted ≤ l.most;
}

abbrev pub decreases-loop-next : goal.decreases-loop-next
decreases-loop-next l = l.most - l.counted
