-- So far there are the keys of the first records.
use Rattle.std.proofs.Common.{◌≡◌, take}
use Rattle.std.specs.List.{flat_map}
use Rattle.map_run.specs.Chain.{key_at}
use Rattle.map_run.proofs.placed.keys_under.Given as goal

abbrev pub invariant-loop-rr : goal.invariant-loop-rr
invariant-loop-rr l = l.keys ≡ flat_map (key_at l.row l.wire l.zone.origin) (take l.rr-index l.zone.rrs)
