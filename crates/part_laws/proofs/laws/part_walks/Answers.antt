use Rattle.part_laws.proofs.QueriesAlike.{walk_along_alike}
use Rattle.part_laws.proofs.laws.part_walks.Goals as goal

pub returns : goal.returns
returns c =
    λ config names part rewrites of_whole of_part alike query local rtype numbers.
    walk_along_alike config names part rewrites of_whole of_part alike query rtype numbers local
