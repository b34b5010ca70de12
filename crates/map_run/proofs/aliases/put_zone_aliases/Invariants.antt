-- So far there are the lines of the first records.
use Rattle.std.proofs.Common.{◌≡◌, ◌++◌, take}
use Rattle.std.specs.List.{flat_map}
use Rattle.alias_ends.specs.Known.{walks_in}
use Rattle.map_run.specs.Aliases.{record_lines}
use Rattle.map_run.proofs.aliases.put_zone_aliases.Given as goal

abbrev pub invariant-loop-rr : goal.invariant-loop-rr
invariant-loop-rr l = record {
  lines : l.lines ≡ l.fn.lines ++ flat_map (λ rr. record_lines (walks_in l.fn.asker) l.fn.asker.config l.row rr rr.rdata) (take l.rr-index l.rrs);
  kept : l.asker ≡ l.fn.asker;
}
