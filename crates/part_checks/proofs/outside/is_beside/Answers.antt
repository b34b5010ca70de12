use Rattle.std.proofs.Common.{arith}
use Rattle.part_checks.proofs.Passing.{beside_told}
use Rattle.part_checks.proofs.outside.is_beside.Goals as goal

pub returns : goal.returns
returns c =
    beside_told c.args.one.now c.args.other.now _ _ _ _ _ _ c.front-above.ensures (omega (arith, c.saturating_sub.ensures, c.len.ensures.value))
    c.front-beside.ensures (omega (arith, c.saturating_sub-2.ensures, c.len-2.ensures.value)) c.compare.ensures c.is_eq.ensures
