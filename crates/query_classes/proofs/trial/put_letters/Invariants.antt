use Rattle.std.proofs.Common.{◌≡◌, ◌++◌, replicate}
use Rattle.query_classes.proofs.trial.put_letters.Given as goal

-- as many as were counted
abbrev pub invariant-loop : goal.invariant-loop
invariant-loop l = l.octets.items ≡ l.initial.octets.items ++ replicate l.counter 97
