use Rattle.std.proofs.Common.{◌≡◌, map, take}
use Rattle.zone_rules.specs.Buckets.{has_rival}
use Rattle.zone_rules.proofs.buckets.Buckets.rivals.Given as goal

-- of the keys so far it is said whether they may have a rival
abbrev pub invariant-loop-key : goal.invariant-loop-key
invariant-loop-key l = l.rivals.items ≡ map (λ key. has_rival l.self key.0) (take l.key-index l.keys)
