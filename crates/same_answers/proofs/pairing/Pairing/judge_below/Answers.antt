use Rattle.std.proofs.Common.{Option, subst}
use Rattle.dns_data.specs.Name.{Labels}
use Rattle.query_verdicts.specs.Subjects.{RepresentsBelow}
use Rattle.same_answers.specs.Compared.{joint}
use Rattle.same_answers.proofs.pairing.Pairing.judge_below.Goals as goal

pub returns-in_ok-judge_class-in-Some : goal.returns-in_ok-judge_class-in-Some
returns-in_ok-judge_class-in-Some g c =
    let stands =
    subst (λ (found : Option Labels). RepresentsBelow (joint g.N.PairNaming.compared) c.args.above.now.name found) c.in-Some.is c.in_ok-query.ensures in
    (c.in-Some.query, stands.represents, c.in_ok-judge_class-in-Some.ensures)

pub returns-in-None : goal.returns-in-None
returns-in-None g c =
    subst (λ (found : Option Labels). RepresentsBelow (joint g.N.PairNaming.compared) c.args.above.now.name found) c.in-None.is c.in_ok-query.ensures
