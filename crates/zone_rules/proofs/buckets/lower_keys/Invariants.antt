use Rattle.std.proofs.Common.{◌≡◌, ℕ, Bool, map, take}
use Rattle.zone_rules.specs.Buckets.{lower_keys}
use Rattle.zone_rules.proofs.buckets.lower_keys.Given as goal

-- the lower keys of the keys so far
abbrev pub invariant-loop-i : goal.invariant-loop-i
invariant-loop-i l = (may : ℕ → Bool) → l.rivals ≡ map (λ key. may key.0) l.keys → l.lower.items ≡ lower_keys may (take l.i l.keys)
