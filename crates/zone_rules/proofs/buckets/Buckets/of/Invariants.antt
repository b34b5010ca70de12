use Rattle.std.proofs.Common.{take}
use Rattle.zone_rules.specs.Buckets.{Marked}
use Rattle.zone_rules.proofs.buckets.Buckets.of.Given as goal

-- the items so far are in their buckets
abbrev pub invariant-loop-key : goal.invariant-loop-key
invariant-loop-key l = Marked l.buckets (take l.key-index l.keys)
