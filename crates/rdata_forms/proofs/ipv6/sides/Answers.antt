use Rattle.std.proofs.Common.{◌≡◌, ◌+◌, ◌-◌, get_or, subst, arith}
use Rattle.rdata_forms.proofs.TwoSides.{AreSides, are_sides-next, are_sides-end}
use Rattle.rdata_forms.proofs.ipv6.sides.Goals as goal
use Rattle.rdata_forms.proofs.ipv6.sides.Goals.{else-text-at-eq58-via-then-text-at-eq58+else-text-at-eq58-2, else-text-at-eq58-via-else-text-at-eq58}

pub loop-at-preserved : goal.loop-at-preserved
loop-at-preserved c =
    let text = c.args.text.now in
    let at = c.loop-at.at in
    let other : get_or text (at - 1) 0 ≡ 58 → get_or text at 0 ≡ 58 → ⊥ =
    elim c.else-text-at-eq58.branch [
      | else-text-at-eq58-via-then-text-at-eq58+else-text-at-eq58-2 w ↦ λ first second. w.if-text-at-eq58-2.false second
      | else-text-at-eq58-via-else-text-at-eq58 w ↦ λ first second. w.if-text-at-eq58.false first
    ] in
    let same : at ≡ at + 1 - 1 = omega arith in
    subst (AreSides text) same (are_sides-next text (at - 1) at (omega arith) (omega arith) c.loop-at.invariant other)

pub returns : goal.returns
returns c = are_sides-end c.args.text.now (c.loop-at.at - 1) (omega arith) c.loop-at.invariant
