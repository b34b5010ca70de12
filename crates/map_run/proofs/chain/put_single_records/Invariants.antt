-- So far there are the lines of the first records.
use Rattle.std.proofs.Common.{◌≡◌, ◌++◌, take}
use Rattle.std.specs.List.{flat_map}
use Rattle.map_run.specs.Chain.{record_lines}
use Rattle.map_run.proofs.chain.put_single_records.Given as goal

abbrev pub invariant-loop-rr : goal.invariant-loop-rr
invariant-loop-rr l = l.lines ≡ l.fn.lines ++ flat_map (record_lines l.row l.tree.zone) (take l.rr-index l.rrs)
