use Rattle.std.proofs.Common.{◌≡◌, take}
use Rattle.dns_data.proofs.name.Name.from_labels.Given as goal

abbrev pub invariant-loop-label : goal.invariant-loop-label
invariant-loop-label l = l.name ≡ take l.label-index l.labels
