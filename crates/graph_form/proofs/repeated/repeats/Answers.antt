use Rattle.std.proofs.Common.{List, map, ap, ◌∙◌}
use Rattle.graph_form.specs.Repeated.{equal_twice, place_at}
use Rattle.graph_form.specs.contracts.repeated.QuestionPartialEq.TheImpl as question_impl
use Rattle.graph_form.specs.declared.repeated.Question.{Question}
use Rattle.graph_form.proofs.TwiceEqual.{twice_asked}
use Rattle.graph_form.proofs.repeated.repeats.Goals as goal

pub returns : goal.returns
returns c =
    c.in_ok-repeats.ensures
    ∙ (ap (λ (questions : List Question). equal_twice (question_impl.ghosts).eq questions) c.as_slice.ensures.value
    ∙ twice_asked c.in_ok-questions.questions.items c.args.walk.now.states (c.in_ok-questions.ensures ∙ ap (map place_at) c.items-states.ensures))
