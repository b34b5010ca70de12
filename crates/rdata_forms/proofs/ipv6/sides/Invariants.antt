use Rattle.std.proofs.Common.{◌-◌}
use Rattle.rdata_forms.proofs.TwoSides.{AreSides}
use Rattle.rdata_forms.proofs.ipv6.sides.Given as goal

-- no two colons were passed
abbrev pub invariant-loop-at : goal.invariant-loop-at
invariant-loop-at l = AreSides l.text (l.at - 1)
