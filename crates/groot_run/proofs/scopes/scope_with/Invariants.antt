use Rattle.job_scope.proofs.Scopes.{scope_covers}
use Rattle.query_verdicts.proofs.TreeValues as trees
use Rattle.query_verdicts.specs.Queries.{most_states}
use Rattle.groot_run.specs.Outcome.{scope_of}
use Rattle.groot_run.proofs.scopes.scope_with.Given as goal

abbrev pub ghosts-judged_with : goal.ghosts-judged_with
ghosts-judged_with g a =
    let subject = scope_of a.graphs.config a.name.now in
    let covers = scope_covers a.graphs.config a.name.now in
    record {
      subject = subject;
      states = most_states;
      children_of = trees.names_below subject covers;
      verdict_of = trees.verdict_of subject covers most_states;
      values = trees.values subject covers most_states;
    }
