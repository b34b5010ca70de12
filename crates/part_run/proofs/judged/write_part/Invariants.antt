use Rattle.query_verdicts.proofs.TreeValues as trees
use Rattle.query_verdicts.specs.Carried.{whole_config}
use Rattle.query_verdicts.specs.Queries.{most_states}
use Rattle.walk_laws.proofs.JoinedGround.{own_covers}
use Rattle.part_run.proofs.judged.write_part.Given as goal

abbrev pub ghosts-judged : goal.ghosts-judged
ghosts-judged g a =
    let subject = whole_config a.left.now a.limits.rewrites in
    let covers = own_covers a.left.now in
    record {
      subject = subject;
      states = most_states;
      children_of = trees.names_below subject covers;
      verdict_of = trees.verdict_of subject covers most_states;
      values = trees.values subject covers most_states;
    }
