use Rattle.std.proofs.Common.{◌∙◌}
use Rattle.std.proofs.lemmas.Result.{IfOk-weaker}
use Rattle.query_verdicts.proofs.name_judge.NameJudge.first.Goals as goal

pub of_name-requires : goal.of_name-requires
of_name-requires g c = c.self.invariant.names_are

pub returns : goal.returns
returns g c = IfOk-weaker c.of_name.result _ _ (λ item is. is ∙ c.self.invariant.first_is) c.of_name.ensures
