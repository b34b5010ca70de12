use Rattle.std.proofs.Common.{◌≡◌, drop}
use Rattle.name_rules.proofs.substitution.labels_below.Given as goal

-- the labels behind those passed
abbrev pub invariant-loop : goal.invariant-loop
invariant-loop l = l.below ≡ drop l.counter l.name
