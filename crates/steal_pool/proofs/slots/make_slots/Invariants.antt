use Rattle.std.proofs.Common.{◌≡◌, ◌+◌, All}
use Rattle.std.specs.Prelude.{vec_len}
use Rattle.steal_pool.specs.Slots.{IsUnused}
use Rattle.steal_pool.proofs.slots.make_slots.Given as goal

abbrev pub invariant-loop-own : goal.invariant-loop-own
invariant-loop-own g l =
    (l.asked.parts ≡ vec_len l.rows + 1) × (l.asked.amount ≡ 0)
    × (l.given.parts ≡ vec_len l.rows + 1) × (l.given.amount ≡ 0)
    × (l.filed.parts ≡ vec_len l.rows + 1) × (l.filed.amount ≡ 0)
    × (vec_len l.slots + vec_len l.rows ≡ l.workers)
    × All IsUnused l.slots.items

abbrev pub decreases-loop-own : goal.decreases-loop-own
decreases-loop-own g l = vec_len l.rows
