use Rattle.query_verdicts.proofs.name_judge.NameJudge.verdict_by_ends.Goals as goal

pub returns : goal.returns
returns g c = λ name judged. judged c.in_ok-shown.shown c.in_ok-shown.ensures
