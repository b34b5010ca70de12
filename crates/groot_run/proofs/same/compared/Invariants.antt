use Rattle.same_answers.proofs.PairValues.{apart, children_of, verdict_of}
use Rattle.groot_run.specs.Outcome.{compared_of}
use Rattle.groot_run.proofs.same.compared.Given as goal

abbrev pub ghosts-judged : goal.ghosts-judged
ghosts-judged g a =
    record {
      compared = compared_of a.first.now a.second.now;
      children_of = children_of (compared_of a.first.now a.second.now);
      verdict_of = verdict_of (compared_of a.first.now a.second.now);
      apart = apart (compared_of a.first.now a.second.now);
    }
