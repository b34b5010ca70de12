use Rattle.std.proofs.Common.{Contains, arith}
use Rattle.std.proofs.lemmas.Result.{IfOk-weaker}
use Rattle.label_graph.specs.Targets.{IsStep}
use Rattle.label_graph.proofs.Passing.{one_iff}
use Rattle.label_graph.proofs.below.step.Goals as goal

pub returns-in-len1 : goal.returns-in-len1
returns-in-len1 c =
    IfOk-weaker c.step_of_one.result _ _ (λ next are other.
    one_iff (IsStep c.args.base.now c.args.label.now other) c.args.places.now (omega (arith, c.in-len1.len_at_least, c.in-len1.len_below))
    (Contains next other) (are other)) c.step_of_one.ensures
