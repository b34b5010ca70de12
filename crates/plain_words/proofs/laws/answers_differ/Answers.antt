use Rattle.plain_words.proofs.AnswersTold.{answers_apart}
use Rattle.plain_words.proofs.laws.answers_differ.Goals as goal

pub returns : goal.returns
returns c = λ setting query beside rtype one other is_one is_other. answers_apart setting rtype query beside one other is_one is_other
