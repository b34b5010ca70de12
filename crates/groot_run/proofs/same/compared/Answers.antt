use Rattle.same_answers.proofs.PairValues.{values}
use Rattle.groot_run.specs.Outcome.{compared_of}
use Rattle.groot_run.proofs.same.compared.Goals as goal

pub judged-requires-clause-values : goal.judged-requires-clause-values
judged-requires-clause-values g c κs within = values (compared_of c.args.first.now c.args.second.now)
