use Rattle.report_check.proofs.OneAnswer.{only_answer}
use Rattle.report_check.proofs.laws.one_answer.Goals as goal

pub returns : goal.returns
returns c = only_answer
