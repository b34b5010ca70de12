use Rattle.std.proofs.Common.{◌≡◌, List, Bool, refl, sym, subst}
use Rattle.std.proofs.lemmas.Result.{IfOk-weaker}
use Rattle.dns_data.proofs.Names.{all_so}
use Rattle.zone_tree.specs.declared.decider.Decider.{Decider}
use Rattle.zone_tree.specs.Decider.{deciding_by}
use Rattle.zone_tree.specs.Tree.{name_of}
use Rattle.zone_lookup.specs.Alike.{AreAlike}
use Rattle.sym_query.specs.Answers.{AnswersAlike}
use Rattle.sym_query.proofs.answers.sets_alike.Goals as goal

pub returns-in-Cut-clause-alike : goal.returns-in-Cut-clause-alike
returns-in-Cut-clause-alike c =
    let tree = c.args.tree.now in
    IfOk-weaker c.one_set.result _ _
    (λ sets same. all_so (λ (set : List Bool). set ≡ c.args.types) (AnswersAlike tree.zone (deciding_by tree c.args.decider)) sets
    (λ set is. subst (λ (d : Decider). AnswersAlike tree.zone (deciding_by tree d) set) (sym c.in-Cut.is) (λ name s t has_s has_t. refl)) same)
    c.one_set.ensures.only

pub returns-in-Redirection-clause-alike : goal.returns-in-Redirection-clause-alike
returns-in-Redirection-clause-alike c =
    let tree = c.args.tree.now in
    IfOk-weaker c.one_set-in-Redirection.result _ _
    (λ sets same. all_so (λ (set : List Bool). set ≡ c.args.types) (AnswersAlike tree.zone (deciding_by tree c.args.decider)) sets
    (λ set is. subst (λ (d : Decider). AnswersAlike tree.zone (deciding_by tree d) set) (sym c.in-Redirection.is) (λ name s t has_s has_t. refl)) same)
    c.one_set-in-Redirection.ensures.only

pub returns-in-Records-clause-alike : goal.returns-in-Records-clause-alike
returns-in-Records-clause-alike c =
    let tree = c.args.tree.now in
    IfOk-weaker c.split_types.result _ _
    (λ sets same. all_so (AreAlike tree.zone (name_of tree c.in-Records.owner)) (AnswersAlike tree.zone (deciding_by tree c.args.decider)) sets
    (λ set is. subst (λ (d : Decider). AnswersAlike tree.zone (deciding_by tree d) set) (sym c.in-Records.is) (λ name s t has_s has_t. is s t has_s has_t)) same)
    c.split_types.ensures.alike

pub returns-in-Nothing-clause-alike : goal.returns-in-Nothing-clause-alike
returns-in-Nothing-clause-alike c =
    let tree = c.args.tree.now in
    IfOk-weaker c.one_set-in-Nothing.result _ _
    (λ sets same. all_so (λ (set : List Bool). set ≡ c.args.types) (AnswersAlike tree.zone (deciding_by tree c.args.decider)) sets
    (λ set is. subst (λ (d : Decider). AnswersAlike tree.zone (deciding_by tree d) set) (sym c.in-Nothing.is) (λ name s t has_s has_t. refl)) same)
    c.one_set-in-Nothing.ensures.only
