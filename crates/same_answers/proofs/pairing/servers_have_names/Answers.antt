use Rattle.query_verdicts.proofs.ClassesJudged.{some_name}
use Rattle.same_answers.proofs.Passing.{either_way}
use Rattle.same_answers.proofs.pairing.servers_have_names.Goals as goal

pub returns : goal.returns
returns c = λ some.
    let of = c.args.graphs.now in
    either_way c.sets.result c.sets.ensures.sets c.sets.ensures.passed
    (λ sets are. absurd (are.none_passes some)) (λ server is. some_name of.config of.rewrites of.states server.now is)
