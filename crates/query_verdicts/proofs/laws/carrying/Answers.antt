use Rattle.query_verdicts.proofs.Carrying.{shown_by_classes}
use Rattle.query_verdicts.proofs.laws.carrying.Goals as goal

pub returns : goal.returns
returns c = λ subject covering fault. shown_by_classes subject covering fault
