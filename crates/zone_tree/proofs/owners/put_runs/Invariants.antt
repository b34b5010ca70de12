use Rattle.std.proofs.Common.{◌≡◌, ◌++◌, map, drop, flat_map}
use Rattle.zone_tree.specs.Runs.{records_in}
use Rattle.zone_tree.proofs.owners.put_runs.Given as goal

-- the records of the runs so far, and then those of the others
abbrev pub invariant-loop-run : goal.invariant-loop-run
invariant-loop-run l = map (λ rr. rr.now) l.rrs.items ++ flat_map records_in (drop l.run-index l.runs) ≡ flat_map records_in l.runs
