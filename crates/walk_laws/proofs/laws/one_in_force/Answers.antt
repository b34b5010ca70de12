-- That one set is in force.
use Rattle.net_model.proofs.InForce.{some_in_force, one_in_force}
use Rattle.walk_laws.proofs.laws.one_in_force.Goals as goal

pub returns : goal.returns
returns c = record { exists = some_in_force; one = one_in_force }
