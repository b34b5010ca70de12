use Rattle.std.proofs.Common.{◌≡◌, replicate, []}
use Rattle.pool_core.proofs.machine.empty_queues.Given as goal

abbrev pub invariant-loop-worker : goal.invariant-loop-worker
invariant-loop-worker l = l.queues.items ≡ replicate l._worker []
