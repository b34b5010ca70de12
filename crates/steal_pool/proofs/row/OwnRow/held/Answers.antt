use Rattle.steal_pool.proofs.Moves.{learns}
use Rattle.steal_pool.proofs.row.OwnRow.held.Goals as goal

pub len_as-requires : goal.len_as-requires
len_as-requires c = learns _ _
