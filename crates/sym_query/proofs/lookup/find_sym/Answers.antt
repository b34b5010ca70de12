use Rattle.std.proofs.lemmas.Result.{IfOk-weaker}
use Rattle.sym_query.specs.Answers.{AnswersAsDecided}
use Rattle.sym_query.specs.TypedFound.{StandsForTails}
use Rattle.name_rules.specs.SymName.{whole}
use Rattle.zone_tree.specs.Decider.{deciding_by}
use Rattle.dns_data.proofs.Names.{all_so}
use Rattle.sym_query.proofs.Tails.{stands_for_tails}
use Rattle.sym_query.proofs.lookup.find_sym.Goals as goal

pub returns-clause-all_tails : goal.returns-clause-all_tails
returns-clause-all_tails c =
    let tree = c.args.tree.now in
    let name = c.args.name.now in
    let decider = c.decider_of.result in
    IfOk-weaker c.answers_of.result _ _
    (λ answers are. all_so (AnswersAsDecided tree.zone (whole name) (deciding_by tree decider)) (StandsForTails tree.zone name) answers
    (λ answer is. stands_for_tails tree decider name.known name.tail answer c.decider_of.ensures.owner c.decider_of.ensures.all_tails is) are.found)
    c.answers_of.ensures
