use Rattle.same_answers.proofs.PairValues.{reaches_more}
use Rattle.same_answers.proofs.laws.tree_is_reached.Goals as goal

pub returns : goal.returns
returns c = λ two children are limit. reaches_more two children are limit
