use Rattle.std.proofs.Common.{◌≡◌, true, sym, ap, ◌∙◌, subst}
use Rattle.net_model.specs.declared.walk.Leaf.{Leaf}
use Rattle.net_model.specs.declared.walk.Leaf.TheVariants.{Answer}
use Rattle.graph_form.specs.FirstPath.{answer_eq}
use Rattle.graph_form.proofs.EqualAnswers.{same_lists, same_answers, answer_itself}
use Rattle.graph_form.proofs.shows.is_same_answer.Goals as goal

equal : (c : goal.After-eq) → c.eq.result ≡ answer_eq c.args.a.now c.args.b.now
equal c =
    c.eq.ensures ∙ same_lists c.in-Answer-Answer.data c.in-Answer-Answer.other
    ∙ ap (λ (leaf : Leaf). answer_eq leaf (Answer c.in-Answer-Answer.other)) (sym c.in-Answer-Answer.is-0)
    ∙ ap (answer_eq c.args.a.now) (sym c.in-Answer-Answer.is-1)

pub returns-in-Answer-Answer-clause-value : goal.returns-in-Answer-Answer-clause-value
returns-in-Answer-Answer-clause-value c = equal c

pub returns-in-Answer-Answer-clause-same : goal.returns-in-Answer-Answer-clause-same
returns-in-Answer-Answer-clause-same c told = (
  λ e. same_answers c.args.a.now c.args.b.now (sym (equal c) ∙ e),
  λ same. equal c ∙ subst (λ (leaf : Leaf). answer_eq c.args.a.now leaf ≡ true) same (answer_itself c.args.a.now told),
)
