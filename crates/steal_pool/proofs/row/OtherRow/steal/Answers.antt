use Rattle.std.proofs.Common.{◌∙◌, ap}
use Rattle.std.proofs.Math.Logic.{∥∥₁_map}
use Rattle.std.specs.Prelude.{min}
use Rattle.steal_pool.proofs.Moves.{takes, finds_few}
use Rattle.steal_pool.proofs.row.OtherRow.steal.Goals as goal

pub steal_as-requires-clause-takes : goal.steal_as-requires-clause-takes
steal_as-requires-clause-takes c = takes _ _

pub steal_as-requires-clause-empty : goal.steal_as-requires-clause-empty
steal_as-requires-clause-empty c = finds_few _ _ _ (ap (λ n. min n 1) c.args.self.now.fifo)

-- the seat stays at the deque
pub invariant_of-self-clause-seated : goal.invariant_of-self-clause-seated
invariant_of-self-clause-seated c =
    let same = c.steal_as.ensures.same in
    ∥∥₁_map c.args.self.now.seated (λ old. (same.0 ∙ old.0, same.1 ∙ old.1, same.3, same.4))
