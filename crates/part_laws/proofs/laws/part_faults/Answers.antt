use Rattle.part_laws.proofs.ShownAlike.{shown_alike}
use Rattle.part_laws.proofs.laws.part_faults.Goals as goal

pub returns : goal.returns
returns c = λ config names part rewrites query rtype local fault. shown_alike config names part rewrites query rtype local fault
