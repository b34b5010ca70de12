-- So far the name has the first labels below it.
use Rattle.std.proofs.Common.{◌≡◌, ◌++◌, take}
use Rattle.dns_data.proofs.name.Name.join.Given as goal

abbrev pub invariant-loop-label : goal.invariant-loop-label
invariant-loop-label l = l.name ≡ l.self ++ take l.label-index l.below
