use Rattle.std.proofs.Common.{◌≡◌, ◌++◌, ℕ, Bool, map, take, drop}
use Rattle.dns_data.specs.First.{are_first, are_first_behind}
use Rattle.dns_data.specs.Identical.{is_identical}
use Rattle.zone_rules.specs.Buckets.{TellsRivals}
use Rattle.zone_rules.specs.Fingerprint.{record_number, record_key}
use Rattle.zone_rules.proofs.SeenRecords.{HasSeen}
use Rattle.zone_rules.proofs.identical.are_first.Given as goal

-- of the records so far those that may have a rival were seen, and of each it is said whether it is the first
abbrev pub invariant-loop-i : goal.invariant-loop-i
invariant-loop-i l = record {
  seen : (may : ℕ → Bool) × (l.rivals.items ≡ map (λ rr. may (record_number rr)) l.rrs) × TellsRivals may (map record_key l.rrs) × HasSeen may l.seen (take l.i l.rrs);
  so_far : are_first is_identical l.rrs ≡ l.firsts.items ++ are_first_behind is_identical (take l.i l.rrs) (drop l.i l.rrs);
}
