-- So far the set tells of the first origins' servers.
use Rattle.std.proofs.Common.{take}
use Rattle.map_run.specs.ReachedRows.{TellOfAnswers}
use Rattle.map_run.proofs.answered.tellers_of.Given as goal

abbrev pub invariant-loop-one : goal.invariant-loop-one
invariant-loop-one l = TellOfAnswers (take l.one-index l.answered) l.tellers
