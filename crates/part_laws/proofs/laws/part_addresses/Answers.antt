use Rattle.part_laws.proofs.LearntAlike.{least_alike, in_least_alike, in_greatest_alike}
use Rattle.part_laws.proofs.laws.part_addresses.Goals as goal

pub returns : goal.returns
returns c =
    record {
      in_force = λ config names part rewrites of_whole of_part in_whole in_part. least_alike config names part rewrites of_whole of_part in_whole in_part;
      least = λ config names part rewrites name local. in_least_alike config names part rewrites name local;
      greatest = λ config names part rewrites name local. in_greatest_alike config names part rewrites name local;
    }
