use Rattle.std.proofs.Common.{map, take}
use Rattle.zone_tree.specs.Tree.{name_of}
use Rattle.straight_walks.specs.Searching.{AreReferrals}
use Rattle.straight_walks.proofs.referrals.queue_referrals.Given as goal

-- so do the name servers so far
abbrev pub invariant-loop-number : goal.invariant-loop-number
invariant-loop-number l =
    AreReferrals l.asked.hosts.now l.asked.sets.now l.asked.name.now l.server l.tree.zone (name_of l.tree l.fn.from.cut) (map (λ server. server.now) (take l.number l.servers))
    (record { queue = l.fn.queue; fails = l.fn.fails; faulty = l.fn.faulty.items }) (record { queue = l.queue; fails = l.fails; faulty = l.faulty.items })
