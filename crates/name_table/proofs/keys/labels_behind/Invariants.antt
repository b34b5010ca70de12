use Rattle.std.proofs.Common.{◌≡◌, drop}
use Rattle.name_table.proofs.keys.labels_behind.Given as goal

-- so many labels are taken off
abbrev pub invariant-loop : goal.invariant-loop
invariant-loop l = l.behind ≡ drop l.counter l.labels
