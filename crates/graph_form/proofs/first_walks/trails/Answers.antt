use Rattle.std.proofs.Common.{◌≡◌, ℕ, true, List, [], ◌∷◌, ◌++◌, sym, ap, ◌∙◌, subst}
use Rattle.net_model.specs.declared.fault.Fault.{Fault}
use Rattle.net_model.specs.declared.fault.Fault.TheVariants.{Answers}
use Rattle.net_model.specs.declared.walk.Walk.{Walk}
use Rattle.graph_form.specs.FirstPath.{IsFirstWalk, branch_shows, takes_along}
use Rattle.graph_form.specs.Trails.{AreFirst, GraphShows}
use Rattle.graph_form.proofs.Firsts.{first_pair, first_single, other_shown, some_path}
use Rattle.graph_form.proofs.first_walks.trails.Goals as goal

pub first_walk-requires-clause-shown : goal.first_walk-requires-clause-shown
first_walk-requires-clause-shown c =
    some_path c.requires.of_query.0 c.requires.of_query.1 c.args.graph.now c.args.seen.now.rtype c.requires.of_query.2 c.args.seen.now.fault c.requires.shown

pub first_walk-requires-in-Answers-clause-shown : goal.first_walk-requires-in-Answers-clause-shown
first_walk-requires-in-Answers-clause-shown c =
    let graph = c.args.graph.now in
    let rtype = c.args.seen.now.rtype in
    let first : Walk = c.in_ok-first.first in
    let walks : c.items.result.now ≡ first ∷ [] =
    c.items.ensures ∙ (c.in_ok-push.ensures.ok ∙ ap (λ (ws : List Walk). ws ++ first ∷ []) c.new-walks.ensures) in
    let shown : GraphShows graph rtype (Answers c.in-Answers.field-0 c.in-Answers.field-1) = subst (GraphShows graph rtype) c.in-Answers.is c.requires.shown in
    let Takes : Fault → List Walk → Type 0 = λ fault ws. (numbers : List ℕ) × (takes_along (branch_shows fault ws) graph rtype numbers ≡ true) in
    subst (Takes c.args.seen.now.fault) (sym walks)
    (subst (λ fault. Takes fault (first ∷ [])) (sym c.in-Answers.is)
    (other_shown c.requires.of_query.0 c.requires.of_query.1 graph rtype c.requires.of_query.2 c.in-Answers.field-0 c.in-Answers.field-1 first shown))

pub returns-in_ok-push-in-Answers : goal.returns-in_ok-push-in-Answers
returns-in_ok-push-in-Answers c =
    let graph = c.args.graph.now in
    let rtype = c.args.seen.now.rtype in
    let first : Walk = c.in_ok-first.first in
    let other : Walk = c.in_ok-other-in-Answers.other in
    let one : c.push.new.self ≡ first ∷ [] = c.in_ok-push.ensures.ok ∙ ap (λ (ws : List Walk). ws ++ first ∷ []) c.new-walks.ensures in
    let two : c.push-in-Answers.new.self ≡ first ∷ other ∷ [] = c.in_ok-push-in-Answers.ensures.ok ∙ ap (λ (ws : List Walk). ws ++ other ∷ []) one in
    let differ : Fault = Answers c.in-Answers.field-0 c.in-Answers.field-1 in
    let is_first : IsFirstWalk (branch_shows differ []) graph rtype first =
    subst (λ fault. IsFirstWalk (branch_shows fault []) graph rtype first) c.in-Answers.is c.in_ok-first.ensures in
    let is_other : IsFirstWalk (branch_shows differ (first ∷ [])) graph rtype other =
    subst (λ fault. IsFirstWalk (branch_shows fault (first ∷ [])) graph rtype other) c.in-Answers.is
    (subst (λ ws. IsFirstWalk (branch_shows c.args.seen.now.fault ws) graph rtype other) (c.items.ensures ∙ one) c.in_ok-other-in-Answers.ensures) in
    subst (AreFirst graph rtype c.args.seen.now.fault) (sym two)
    (subst (λ fault. AreFirst graph rtype fault (first ∷ other ∷ [])) (sym c.in-Answers.is)
    (first_pair c.requires.of_query.0 c.requires.of_query.1 graph rtype c.requires.of_query.2 c.in-Answers.field-0 c.in-Answers.field-1 first other is_first is_other))

pub returns-in_default : goal.returns-in_default
returns-in_default c =
    let graph = c.args.graph.now in
    let rtype = c.args.seen.now.rtype in
    let first : Walk = c.in_ok-first.first in
    let one : c.push.new.self ≡ first ∷ [] = c.in_ok-push.ensures.ok ∙ ap (λ (ws : List Walk). ws ++ first ∷ []) c.new-walks.ensures in
    subst (AreFirst graph rtype c.args.seen.now.fault) (sym one)
    (first_single c.requires.of_query.0 c.requires.of_query.1 graph rtype c.requires.of_query.2 c.args.seen.now.fault first
    (λ class t is. c.in_default.not-Answers class t is) c.in_ok-first.ensures)
