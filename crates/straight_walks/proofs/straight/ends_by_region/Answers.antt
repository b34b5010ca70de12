use Rattle.straight_walks.proofs.straight.ends_by_region.Goals as goal

pub ends_from-requires-clause-searched : goal.ends_from-requires-clause-searched
ends_from-requires-clause-searched c = c.in-Some.ensures c.args.asked.hosts.now c.args.asked.sets.now c.requires.regions

pub ends_from-requires-in-None-clause-searched : goal.ends_from-requires-in-None-clause-searched
ends_from-requires-in-None-clause-searched c = c.in_ok-searched-in-None.ensures.is c.args.asked.sets.now
