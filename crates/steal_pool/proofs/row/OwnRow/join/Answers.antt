use Rattle.steal_pool.proofs.Moves.{merges}
use Rattle.steal_pool.proofs.row.OwnRow.join.Goals as goal

pub absorb-requires-clause-rule : goal.absorb-requires-clause-rule
absorb-requires-clause-rule c = merges _ _ _ _ c.args.self.now.first_seat
