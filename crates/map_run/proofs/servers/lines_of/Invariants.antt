-- So far there are the lines of the first names.
use Rattle.std.proofs.Common.{◌≡◌, map, take}
use Rattle.net_model.specs.Nearest.{is_configured}
use Rattle.name_ends.specs.Asked.{ends_in}
use Rattle.map_run.specs.NameLists.{listed_at}
use Rattle.map_run.specs.Servers.{server_line}
use Rattle.map_run.proofs.servers.lines_of.Given as goal

abbrev pub invariant-loop-name : goal.invariant-loop-name
invariant-loop-name l = record {
  lines : l.lines ≡ map (λ name. server_line (ends_in l.fn.asker name) (is_configured l.fn.asker.config name) name (map (λ one. one.now) (listed_at l.named name))) (take l.name-index l.names);
  kept : l.asker ≡ l.fn.asker;
}
