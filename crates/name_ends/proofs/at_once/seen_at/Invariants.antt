-- of the servers so far it is told how the walks end that begin there
use Rattle.std.proofs.Common.{take}
use Rattle.name_ends.specs.AtOnce.{AreSeen}
use Rattle.name_ends.proofs.at_once.seen_at.Given as goal

abbrev pub invariant-loop-server : goal.invariant-loop-server
invariant-loop-server l = AreSeen l.hosts l.name (take l.server-index l.servers) l.seen
