use Rattle.std.proofs.Common.{◌≡◌, ℕ, Bool, map, take, drop}
use Rattle.zone_rules.specs.Before.{IsSummaryOf}
use Rattle.zone_rules.specs.Buckets.{TellsRivals}
use Rattle.zone_rules.specs.Fingerprint.{owner_number, owner_key}
use Rattle.zone_rules.specs.Rules.{first_fault, first_fault_behind}
use Rattle.zone_rules.proofs.rules.check_rules.Given as goal

-- what is kept are the records so far, of which none breaks a rule
abbrev pub invariant-loop-i : goal.invariant-loop-i
invariant-loop-i l = record {
  stands : (may : ℕ → Bool) × (l.rivals.items ≡ map (λ rr. may (owner_number rr.owner)) l.rrs) × TellsRivals may (map owner_key l.rrs) × IsSummaryOf (λ owner. may (owner_number owner)) l.before (take l.i l.rrs);
  so_far : first_fault l.origin l.rrs ≡ first_fault_behind l.origin (take l.i l.rrs) (drop l.i l.rrs);
}
