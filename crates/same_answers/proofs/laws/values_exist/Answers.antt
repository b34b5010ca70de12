use Rattle.same_answers.proofs.PairValues.{children_of, verdict_of, values}
use Rattle.same_answers.proofs.laws.values_exist.Goals as goal

pub returns : goal.returns
returns c = λ two. (children_of two, verdict_of two, values two)
