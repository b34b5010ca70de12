use Rattle.std.proofs.Common.{◌≡◌, map, take}
use Rattle.std.specs.List.{AllByRecursion}
use Rattle.serde_json.specs.View.{view}
use Rattle.report_check.specs.Checked.{IsConfirmed}
use Rattle.report_check.proofs.entries.check_entries.Given as goal

-- the entries so far are confirmed
abbrev pub invariant-loop-i : goal.invariant-loop-i
invariant-loop-i l = record {
  kept : l.checker ≡ l.fn.checker;
  confirmed : AllByRecursion (IsConfirmed l.fn.checker.config l.fn.checker.rewrites) (map view (take l.i l.entries));
}
