use Rattle.std.proofs.Common.{◌≡◌, map, take}
use Rattle.zone_rules.specs.Fingerprint.{record_key}
use Rattle.zone_rules.proofs.identical.record_keys.Given as goal

-- the keys of the records so far
abbrev pub invariant-loop-rr : goal.invariant-loop-rr
invariant-loop-rr l = l.keys.items ≡ map record_key (take l.rr-index l.rrs)
