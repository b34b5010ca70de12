use Rattle.std.proofs.Common.{◌++◌}
use Rattle.query_verdicts.proofs.name_judge.NameJudge.with_same_below.Goals as goal

pub below_with-requires-clause-below : goal.below_with-requires-clause-below
below_with-requires-clause-below g c = λ tail is. c.in_ok-verdict.ensures (c.args.name.now.name ++ tail) (c.requires.below tail is)
