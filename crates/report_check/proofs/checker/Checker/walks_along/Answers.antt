use Rattle.std.proofs.Common.{List, map, sym, ap, ◌∙◌, subst}
use Rattle.std.proofs.lemmas.Result.{IfOk-weaker}
use Rattle.net_model.specs.Step.{Setting, following}
use Rattle.net_model.specs.declared.walk.State.{State}
use Rattle.plain_resolver.specs.Tested.{ArePassing}
use Rattle.serde_json.specs.Data.{Data}
use Rattle.serde_json.specs.View.{view}
use Rattle.report_check.specs.Steps.{is_at}
use Rattle.report_check.specs.declared.steps.StepValue.{StepValue}
use Rattle.report_check.proofs.WalkSteps.{passing_seen}
use Rattle.report_check.proofs.checker.Checker.walks_along.Goals as goal

pub returns : goal.returns
returns c =
    let own = c.self.inside in
    let query = c.args.asked.now.query in
    let rtype = c.args.asked.now.rtype in
    let steps = c.as_slice.result.now in
    let see = λ (step : StepValue). view step.value.now in
    IfOk-weaker c.resolve_tested.result _ _
    (λ walks are.
    subst (λ (values : List Data). ArePassing is_at c.args.self.now query rtype values walks) (ap (map see) c.as_slice.ensures.value ∙ c.in_ok-steps.ensures)
    (passing_seen is_at see c.args.self.now query rtype steps walks
    (subst (λ (s : Setting). ArePassing (λ (step : StepValue) (state : State). is_at (see step) state) s query rtype steps walks)
    (ap (following own.hosts.now own.rewrites) (c.followed.ensures ∙ sym (ap (λ (s : Setting). s.followed) c.self.view_is)) ∙ c.self.view_is)
    are)))
    c.resolve_tested.ensures
