use Rattle.std.proofs.Common.{◌≡◌, Bool, true, sym, subst}
use Rattle.std.specs.Prelude.{◌↔◌}
use Rattle.rewrite_checks.specs.Answers.{Differ}
use Rattle.rewrite_checks.proofs.AnswersShown.{differ_by}
use Rattle.rewrite_checks.proofs.answers.answers_differ.Goals as goal

pub returns-in-Some : goal.returns-in-Some
returns-in-Some c =
    subst (λ (b : Bool). (b ≡ true) ↔ Differ c.args.graph.now c.args.rtype) (sym c.is_some.ensures)
    (differ_by c.args.graph.now c.args.rtype c.in-Some.first.now c.in-Some.ensures.0 c.in-Some.ensures.1 c.other_answer-in-Some.result c.other_answer-in-Some.ensures)
