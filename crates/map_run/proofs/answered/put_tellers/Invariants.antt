-- So far the set also tells of the first servers.
use Rattle.std.proofs.Common.{◌≡◌, ◌&&◌, ◌||◌, take}
use Rattle.std.specs.List.{list_any}
use Rattle.dns_data.specs.Name.{Labels, name_eq}
use Rattle.map_run.specs.ReachedRows.{tells}
use Rattle.map_run.proofs.answered.put_tellers.Given as goal

abbrev pub invariant-loop-server : goal.invariant-loop-server
invariant-loop-server l =
    (server origin : Labels) → tells l.tellers server origin ≡ (tells l.fn.tellers server origin || (name_eq l.one.origin origin && list_any (name_eq server) (take l.server-index l.server-items)))
