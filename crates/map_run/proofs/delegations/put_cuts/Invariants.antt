-- So far there are the lines of the zone cuts among the first names.
use Rattle.std.proofs.Common.{◌≡◌, ◌++◌, filter, take}
use Rattle.std.specs.List.{flat_map}
use Rattle.name_ends.specs.Asked.{ends_in}
use Rattle.zone_cuts.specs.Cuts.{is_cut}
use Rattle.map_run.specs.Delegations.{cut_lines}
use Rattle.map_run.proofs.delegations.put_cuts.Given as goal

abbrev pub invariant-loop-name : goal.invariant-loop-name
invariant-loop-name l = record {
  lines : l.lines ≡ l.fn.lines ++ flat_map (cut_lines (ends_in l.fn.asker) l.fn.asker.config l.at.row l.at.zone) (filter (is_cut l.at.zone) (take l.name-index l.name-items));
  kept : l.asker ≡ l.fn.asker;
}
