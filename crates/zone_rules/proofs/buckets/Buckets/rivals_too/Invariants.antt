use Rattle.std.proofs.Common.{◌≡◌, ◌&&◌, ℕ, Bool, map, take}
use Rattle.zone_rules.specs.Buckets.{has_rival, lower_half}
use Rattle.zone_rules.proofs.buckets.Buckets.rivals_too.Given as goal

-- of the keys so far it is said whether both hold
abbrev pub invariant-loop-i : goal.invariant-loop-i
invariant-loop-i l = (may : ℕ → Bool) → l.rivals ≡ map (λ key. may key.0) l.keys
    → l.both.items ≡ map (λ key. may key.0 && has_rival l.self (lower_half key.0)) (take l.i l.keys)
