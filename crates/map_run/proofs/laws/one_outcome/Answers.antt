-- That a job has no two outcomes.
use Rattle.map_run.proofs.OneOutcome as outcomes
use Rattle.map_run.proofs.laws.one_outcome.Goals as goal

pub returns : goal.returns
returns c = record { one = outcomes.one_outcome }
