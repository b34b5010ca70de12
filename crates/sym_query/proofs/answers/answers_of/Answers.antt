use Rattle.std.proofs.Common.{List, Bool, [], ◌∷◌, ◌++◌, map, take, take_all, sym, ap, ◌∙◌, subst}
use Rattle.std.specs.List.{AllByRecursion}
use Rattle.std.proofs.lemmas.List.{map-append, take_more}
use Rattle.dns_data.specs.TypeSet.{has_bit}
use Rattle.dns_data.proofs.Membership.{each_along}
use Rattle.dns_data.proofs.Names.{all_push}
use Rattle.name_rules.specs.SymName.{whole}
use Rattle.zone_tree.specs.Decider.{deciding_by}
use Rattle.zone_lookup.specs.Alike.{AreSplit, HasSome}
use Rattle.sym_query.specs.Answers.{AnswersAlike, AnswersAsDecided}
use Rattle.sym_query.specs.TypedFound.{IsOpenExactly}
use Rattle.sym_query.proofs.AnswersOfTypes.{split_answered, types_of}
use Rattle.sym_query.proofs.answers.answers_of.Goals as goal

pub answer_to-requires-clause-some : goal.answer_to-requires-clause-some
answer_to-requires-clause-some c =
    let split = subst (AreSplit (has_bit c.args.types)) (sym c.items-sets.ensures) c.in_ok-sets.ensures.split in
    each_along HasSome c.items-sets.result.now split.some c.index-sets-at.result (c.loop-at.at, c.loop-at-test.true, sym c.index-sets-at.is)

pub answer_to-requires-clause-alike : goal.answer_to-requires-clause-alike
answer_to-requires-clause-alike c =
    let answers_alike = AnswersAlike c.args.tree.now.zone (deciding_by c.args.tree.now c.args.decider) in
    each_along answers_alike c.items-sets.result.now (subst (AllByRecursion answers_alike) (sym c.items-sets.ensures) c.in_ok-sets.ensures.alike)
    c.index-sets-at.result (c.loop-at.at, c.loop-at-test.true, sym c.index-sets-at.is)

pub loop-at-preserved : goal.loop-at-preserved
loop-at-preserved c =
    let sets = c.items-sets.result.now in
    let at = c.loop-at.at in
    let set : List Bool = c.index-sets-at.result in
    let answers = c.loop-at.answers in
    let answer = c.in_ok-answer_to.field-0 in
    let as_decided = AnswersAsDecided c.args.tree.now.zone (whole c.args.name.now) (deciding_by c.args.tree.now c.args.decider) in
    let inv = c.loop-at.invariant in
    let put = c.in_ok-push.ensures.ok in
    record {
      sets = ap (map types_of) put ∙ map-append types_of answers (answer ∷ [])
          ∙ ap (λ (some : List (List Bool)). some ++ answer.types ∷ []) inv.sets
          ∙ ap (λ (s : List Bool). take at sets ++ s ∷ []) c.in_ok-answer_to.ensures.types
          ∙ sym (take_more sets at set c.loop-at-test.true ∙ ap (λ (s : List Bool). take at sets ++ s ∷ []) (sym c.index-sets-at.is));
      found = subst (AllByRecursion as_decided) (sym put) (all_push as_decided answers answer inv.found c.in_ok-answer_to.ensures.found);
      open_tail = subst (AllByRecursion (IsOpenExactly c.args.name.now)) (sym put)
          (all_push (IsOpenExactly c.args.name.now) answers answer inv.open_tail c.in_ok-answer_to.ensures.open_tail);
    }

pub returns : goal.returns
returns c =
    let tree = c.args.tree.now in
    let sets = c.items-sets.result.now in
    let inv = c.loop-at.invariant in
    split_answered tree.zone c.args.name.now (deciding_by tree c.args.decider) c.args.types sets c.loop-at.answers
    (inv.sets ∙ take_all c.loop-at.at sets c.loop-at-test.false) (subst (AreSplit (has_bit c.args.types)) (sym c.items-sets.ensures) c.in_ok-sets.ensures.split)
    inv.found inv.open_tail
