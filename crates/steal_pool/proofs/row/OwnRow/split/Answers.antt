use Rattle.steal_pool.proofs.Moves.{forks}
use Rattle.steal_pool.proofs.row.OwnRow.split.Goals as goal

pub another-seat-requires : goal.another-seat-requires
another-seat-requires c = forks _ _
