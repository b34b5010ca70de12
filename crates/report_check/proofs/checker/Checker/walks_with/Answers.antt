use Rattle.std.proofs.Common.{◌≡◌, List, map, Some, sym, ap, ◌∙◌, subst}
use Rattle.std.proofs.lemmas.Result.{IfOk-weaker}
use Rattle.meta_read.specs.Members.{values_of}
use Rattle.meta_read.proofs.Values.{values_of-items_of}
use Rattle.net_model.specs.declared.walk.Walk.{Walk}
use Rattle.plain_resolver.specs.Tested.{PassEach}
use Rattle.report_json.specs.Json.{json_items}
use Rattle.report_json.specs.Walks.{walk_value}
use Rattle.serde_json.specs.Data.{Data}
use Rattle.serde_json.specs.Find.{as_array}
use Rattle.serde_json.specs.View.{items_of, items_view, view}
use Rattle.serde_json.specs.declared.value.Value.{Value}
use Rattle.report_check.specs.Steps.{is_at}
use Rattle.report_check.proofs.EntrySteps.{values_of_items}
use Rattle.report_check.proofs.WalkSteps.{steps_at, values}
use Rattle.report_check.proofs.checker.Checker.walks_with.Goals as goal

pub returns-in-Some-clause-walks : goal.returns-in-Some-clause-walks
returns-in-Some-clause-walks c = IfOk-weaker c.walks_along.result _ _ (λ walks passing walk has. ((passing walk).0 has).0) c.walks_along.ensures

-- the items of an array that is a walk's value are the values of its steps
same_values : (steps : List Value) (value : Data) (walk : Walk) → Some (items_view steps) ≡ as_array value → value ≡ walk_value walk
    → values walk ≡ map view steps
same_values steps value walk is e =
    let both : Some (items_of (map view steps)) ≡ Some (json_items (values walk)) = is ∙ ap as_array e in
    let same : items_of (map view steps) ≡ json_items (values walk) = cc in
    sym (values_of_items (values walk)) ∙ ap values_of (sym same) ∙ values_of-items_of (map view steps)

pub returns-in-Some-clause-each : goal.returns-in-Some-clause-each
returns-in-Some-clause-each c =
    let asked = c.args.asked.now in
    let steps = c.in-Some.steps.now.items in
    IfOk-weaker c.walks_along.result _ _
    (λ walks passing walk is e. (passing walk).1 (
      is,
      subst (λ (all : List Data). PassEach is_at all walk.states)
          (same_values steps (view c.args.value.now) walk c.in-Some.ensures e ∙ ap (map view) (sym c.as_slice.ensures.value))
          (steps_at c.args.self.now asked.rtype asked.query walk is),
    ))
    c.walks_along.ensures
