use Rattle.same_answers.proofs.OneSameness.{one_sameness, one_passed}
use Rattle.same_answers.proofs.laws.one_sameness.Goals as goal

pub returns-clause-one : goal.returns-clause-one
returns-clause-one c = λ two a b one other. one_sameness two a b one other

pub returns-clause-passed : goal.returns-clause-passed
returns-clause-passed c = λ two a b one other. one_passed two a b one other
