use Rattle.std.proofs.Common.{◌≡◌, ◌+◌, ◌≤◌, length, take}
use Rattle.own_names.specs.OwnNames.{own_below, own_tree}
use Rattle.own_names.proofs.counts.own_counts.Given as goal

-- the own names and classes of the rows so far are counted
abbrev pub invariant-loop-row : goal.invariant-loop-row
invariant-loop-row l = record {
  names : l.names ≡ length (own_tree l.held (take l.row-index l.rows));
  classes : l.classes ≡ length (own_tree l.held (take l.row-index l.rows)) + length (own_below l.held (take l.row-index l.rows));
  few_names : l.names ≤ l.row-index;
  few_classes : l.classes ≤ l.row-index + l.row-index;
}
