use Rattle.std.proofs.Common.{◌+◌, length}
use Rattle.straight_walks.proofs.GivenEnds.{bounded_given, few_given, few_given_below, few_given_unnamed, shown_given, shown_given_below, shown_given_unnamed, outcomes_given}
use Rattle.straight_walks.proofs.straight.straight_ends.Goals as goal

pub returns-clause-few : goal.returns-clause-few
returns-clause-few c =
    few_given c.args.hosts.now c.args.sets.now c.args.rewrites (c.in-Some.states + length c.args.hosts.now.tops) c.args.query.now c.ends_by_region.result c.args.states
    c.in-Some.ensures c.ends_by_region.ensures

pub returns-clause-shown : goal.returns-clause-shown
returns-clause-shown c =
    shown_given c.args.hosts.now c.args.sets.now c.args.rewrites (c.in-Some.states + length c.args.hosts.now.tops) c.args.query.now c.ends_by_region.result c.ends_by_region.ensures

pub returns-clause-bounded : goal.returns-clause-bounded
returns-clause-bounded c =
    bounded_given c.args.hosts.now c.args.sets.now c.args.rewrites (c.in-Some.states + length c.args.hosts.now.tops) c.args.query.now c.ends_by_region.result c.ends_by_region.ensures

pub returns-clause-outcomes : goal.returns-clause-outcomes
returns-clause-outcomes c =
    outcomes_given c.args.hosts.now c.args.sets.now c.args.rewrites (c.in-Some.states + length c.args.hosts.now.tops) c.args.query.now c.ends_by_region.result c.ends_by_region.ensures

pub returns-clause-few_below : goal.returns-clause-few_below
returns-clause-few_below c =
    few_given_below c.args.hosts.now c.args.sets.now c.args.rewrites (c.in-Some.states + length c.args.hosts.now.tops) c.args.query.now c.ends_by_region.result c.args.states
    c.in-Some.ensures c.ends_by_region.ensures

pub returns-clause-shown_below : goal.returns-clause-shown_below
returns-clause-shown_below c =
    shown_given_below c.args.hosts.now c.args.sets.now c.args.rewrites (c.in-Some.states + length c.args.hosts.now.tops) c.args.query.now c.ends_by_region.result c.ends_by_region.ensures

pub returns-clause-few_unnamed : goal.returns-clause-few_unnamed
returns-clause-few_unnamed c =
    few_given_unnamed c.args.hosts.now c.args.sets.now c.args.rewrites (c.in-Some.states + length c.args.hosts.now.tops) c.args.query.now c.ends_by_region.result c.args.states
    c.in-Some.ensures c.ends_by_region.ensures

pub returns-clause-shown_unnamed : goal.returns-clause-shown_unnamed
returns-clause-shown_unnamed c =
    shown_given_unnamed c.args.hosts.now c.args.sets.now c.args.rewrites (c.in-Some.states + length c.args.hosts.now.tops) c.args.query.now c.ends_by_region.result c.ends_by_region.ensures
