use Rattle.std.proofs.Common.{map, take}
use Rattle.std.specs.List.{AllByRecursion}
use Rattle.straight_walks.specs.Searching.{EndsOutside}
use Rattle.straight_walks.proofs.referrals.all_end_outside.Given as goal

-- walks end at the name servers so far
abbrev pub invariant-loop-ns : goal.invariant-loop-ns
invariant-loop-ns l = AllByRecursion (EndsOutside l.asked.hosts.now l.fn.from.tree.now l.fn.from.cut) (map (λ server. server.now) (take l.ns-index l.servers))
