use Rattle.std.proofs.Common.{◌≡◌, map, take}
use Rattle.zone_rules.specs.Before.{is_watched}
use Rattle.zone_rules.specs.Fingerprint.{owner_key}
use Rattle.zone_rules.proofs.rules.Owners.of.Given as goal

-- the keys of the records so far, and whether they are watched
abbrev pub invariant-loop-rr : goal.invariant-loop-rr
invariant-loop-rr l = record {
  keys : l.keys.items ≡ map owner_key (take l.rr-index l.rrs);
  watched : l.watched.items ≡ map is_watched (take l.rr-index l.rrs);
}
