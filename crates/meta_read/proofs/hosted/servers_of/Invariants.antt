use Rattle.meta_read.proofs.Single.{HasFirst}
use Rattle.meta_read.proofs.hosted.servers_of.Given as goal

-- the set has the servers of the rows so far
abbrev pub invariant-loop-row : goal.invariant-loop-row
invariant-loop-row l = HasFirst (λ row. row.server) l.rows l.row-index l.servers
