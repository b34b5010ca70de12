-- So far there are the lines of the first name servers.
use Rattle.std.proofs.Common.{◌≡◌, ◌++◌, map, take}
use Rattle.std.specs.List.{flat_map}
use Rattle.name_ends.specs.Asked.{ends_in}
use Rattle.map_run.specs.Delegations.{at_origin}
use Rattle.map_run.proofs.delegations.put_origin.Given as goal

abbrev pub invariant-loop-ns : goal.invariant-loop-ns
invariant-loop-ns l = record {
  lines : l.lines ≡ l.fn.lines ++ flat_map (at_origin (ends_in l.fn.asker) l.fn.asker.config l.at.row l.at.zone) (map (λ ns. ns.now) (take l.ns-index l.names));
  kept : l.asker ≡ l.fn.asker;
}
