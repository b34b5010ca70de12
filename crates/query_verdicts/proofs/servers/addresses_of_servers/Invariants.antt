use Rattle.std.proofs.Common.{take}
use Rattle.query_verdicts.specs.Learnt.{AreKnown}
use Rattle.query_verdicts.proofs.ServerAddresses.{AreSoFar}
use Rattle.query_verdicts.proofs.servers.addresses_of_servers.Given as goal

-- the addresses are those of the servers passed, and what is known by classes holds
abbrev pub invariant-loop-server : goal.invariant-loop-server
invariant-loop-server l = record {
  so_far : AreSoFar l.queries.trees l.queries.rewrites l.queries.states (take l.server-index l.server-items) l.addresses;
  known : AreKnown l.queries.trees l.queries.rewrites l.queries.states l.classes;
}
