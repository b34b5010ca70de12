use Rattle.std.proofs.Common.{◌≡◌, ◌+◌, ◌≤◌}
use Rattle.std.specs.Prelude.{vec_len, vec_capacity}
use Rattle.steal_pool.specs.Rows.{own_view}
use Rattle.steal_pool.proofs.turn.push_issued.Given as goal

abbrev pub invariant-loop-i : goal.invariant-loop-i
invariant-loop-i l =
    (vec_len l.kept + l.fn.refused ≡ vec_len l.fn.kept + l.refused)
    × (l.refused ≤ l.fn.refused + l.i)
    × ((own_view l.own).taken ≡ (own_view l.fn.own).taken)
    × (vec_len l.fn.kept + l.issued.count ≤ vec_capacity l.kept)
