use Rattle.std.proofs.Common.{◌≡◌, ◌++◌, All, length, flat_map}
use Rattle.std.specs.List.{filter}
use Rattle.dns_data.specs.Name.{is_prefix}
use Rattle.zone_tree.specs.Runs.{IsKeyedRun, records_in}
use Rattle.zone_tree.proofs.runs.keyed_runs.Given as goal

-- the records of the runs so far, and then those of the others that are kept
abbrev pub invariant-loop-first : goal.invariant-loop-first
invariant-loop-first l = record {
  rrs : flat_map records_in l.runs.items ++ filter (λ rr. is_prefix l.zone.origin rr.owner) l.left
      ≡ filter (λ rr. is_prefix l.zone.origin rr.owner) l.zone.rrs;
  each : All (IsKeyedRun l.zone.origin) l.runs.items;
}

abbrev pub decreases-loop-first : goal.decreases-loop-first
decreases-loop-first l = length l.left
