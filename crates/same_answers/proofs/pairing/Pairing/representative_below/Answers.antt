use Rattle.std.proofs.lemmas.Result.{IfOk-weaker}
use Rattle.query_classes.proofs.SameGrounds.{named_same, same_back}
use Rattle.query_verdicts.proofs.ClassesJudged.{represents_below}
use Rattle.same_answers.specs.Compared.{joint}
use Rattle.same_answers.proofs.PairValues.{joint_closed}
use Rattle.same_answers.proofs.pairing.Pairing.representative_below.Goals as goal

pub below-requires-clause-named : goal.below-requires-clause-named
below-requires-clause-named g c =
    let ground = joint g.N.PairNaming.compared in
    let names = c.self.inside.names in
    named_same ground names (same_back names ground c.self.invariant.names_are.same) c.args.above.now.name c.requires.in_tree.0

pub returns : goal.returns
returns g c =
    let two = g.N.PairNaming.compared in
    IfOk-weaker c.below.result _ _
    (represents_below (joint two) c.self.inside.names c.self.invariant.names_are (joint_closed two) c.args.above.now.name c.requires.in_tree)
    c.below.ensures
