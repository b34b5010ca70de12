use Rattle.steal_pool.proofs.Moves.{pushes}
use Rattle.steal_pool.proofs.row.OwnRow.push.Goals as goal

pub push_as-requires-clause-pushes : goal.push_as-requires-clause-pushes
push_as-requires-clause-pushes c = pushes _ _ _ c.args.self.now.first_seat
