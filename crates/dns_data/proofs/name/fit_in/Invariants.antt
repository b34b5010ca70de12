use Rattle.std.proofs.Common.{◌≡◌, ◌+◌, take, length}
use Rattle.std.specs.Prelude.{sum_by}
use Rattle.dns_data.proofs.name.fit_in.Given as goal

abbrev pub invariant-loop-label : goal.invariant-loop-label
invariant-loop-label l = l.room + sum_by (λ label. length label + 1) (take l.label-index l.labels) ≡ l.initial.room
