use Rattle.same_answers.proofs.Comparing.{alike_by_classes}
use Rattle.same_answers.proofs.laws.comparing.Goals as goal

pub returns : goal.returns
returns c = alike_by_classes
