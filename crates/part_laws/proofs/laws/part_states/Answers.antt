use Rattle.part_laws.proofs.ReachedAlike.{more_alike}
use Rattle.part_laws.proofs.laws.part_states.Goals as goal

pub returns : goal.returns
returns c = λ config names part rewrites query local most. more_alike config names part rewrites query local most
