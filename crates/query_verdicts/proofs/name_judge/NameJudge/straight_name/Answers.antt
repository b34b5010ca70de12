use Rattle.query_verdicts.proofs.name_judge.NameJudge.straight_name.Goals as goal

pub with_same_below-requires-clause-exact : goal.with_same_below-requires-clause-exact
with_same_below-requires-clause-exact g c = c.in_ok-exact.ensures c.args.name.now.name c.requires.ends.verdict

pub with_same_below-requires-clause-below : goal.with_same_below-requires-clause-below
with_same_below-requires-clause-below g c = c.requires.ends.verdict_unnamed c.if-ends.true

pub with_below-requires-clause-exact : goal.with_below-requires-clause-exact
with_below-requires-clause-exact g c = c.in_ok-exact.ensures c.args.name.now.name c.requires.ends.verdict
