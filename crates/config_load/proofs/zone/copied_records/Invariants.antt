use Rattle.std.proofs.Common.{◌≡◌, take}
use Rattle.config_load.proofs.zone.copied_records.Given as goal

-- copies of the records so far
abbrev pub invariant-loop-rr : goal.invariant-loop-rr
invariant-loop-rr l = l.copies.items ≡ take l.rr-index l.rrs
