use Rattle.steal_pool.proofs.Moves.{admits}
use Rattle.steal_pool.proofs.row.OwnRow.other.Goals as goal

pub pass-seat-requires : goal.pass-seat-requires
pass-seat-requires c = admits
