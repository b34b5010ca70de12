use Rattle.std.proofs.Common.{◌≡◌, ◌↔◌, ◌≤◌, Bool, true, false, true≢false, List, [], ◌∷◌, length, map, codes, Some, Result, Ok, IfOk, sym, ap, ◌∙◌, subst, arith}
use Rattle.std.proofs.lemmas.List.{length-map}
use Rattle.std.proofs.lemmas.Result.{IfOk-weaker}
use Rattle.dns_data.specs.Name.{Labels}
use Rattle.dns_data.specs.declared.memory.NoMemory.{NoMemory}
use Rattle.dns_data.specs.declared.rr_type.RrType.{RrType}
use Rattle.meta_read.specs.Members.{list_at}
use Rattle.net_model.specs.Step.{Setting}
use Rattle.report_json.specs.Plain.{IsWritten}
use Rattle.serde_json.specs.Data.{Data, depth}
use Rattle.serde_json.specs.Read.{max_depth}
use Rattle.serde_json.specs.View.{view}
use Rattle.serde_json.specs.declared.value.Value.{Value}
use Rattle.report_check.specs.Entries.{ByWalks}
use Rattle.report_check.proofs.EntrySteps.{no_other_steps, one_by_walks, two_by_walks, walks_by_one, walks_by_two}
use Rattle.report_check.proofs.InOrder.{at_item}
use Rattle.report_check.proofs.Searched.{only_one, only_two}
use Rattle.report_check.proofs.Shallow.{list_shallow}
use Rattle.report_check.proofs.right_entry.is_shown.Goals as goal
use Rattle.report_check.proofs.right_entry.is_shown.Goals.{in_default-steps, in_default-steps-2}

pub by_one-requires : goal.by_one-requires
by_one-requires c =
    at_item view (λ (one : Data). depth one ≤ max_depth) c.in-Some.steps.now 0 c.one-item.result
    (list_shallow (codes "walks") (view c.args.value.now) (map view c.in-Some.steps.now) max_depth (sym c.in-Some.ensures) c.requires.nests)
    (omega (arith, c.in-len1.len_at_least)) c.one-item.is

pub returns-in-len1-clause-shown : goal.returns-in-len1-clause-shown
returns-in-len1-clause-shown c =
    let setting = c.args.checker.now in
    let query = c.args.asked.now.query in
    let rtype = c.args.asked.now.rtype in
    let value = view c.args.value.now in
    let one = view c.one-item.result in
    let at : list_at (codes "walks") value ≡ Some (one ∷ []) =
    sym c.in-Some.ensures ∙ ap (λ (steps : List Value). Some (map view steps))
    (only_one c.in-Some.steps.now c.one-item.result c.in-len1.len_at_least c.in-len1.len_below c.one-item.is) in
    let written = subst (IsWritten value) (sym c.as_slice.ensures.value) c.in_ok-text.ensures in
    IfOk-weaker c.by_one.result _ _
    (λ shown told. (
      (λ e. one_by_walks setting query rtype value one ((told value written).0 e)),
      (λ by. (told value written).1 (walks_by_one setting query rtype value one at by)),
    ))
    c.by_one.ensures.shown

pub by_two-requires-clause-one : goal.by_two-requires-clause-one
by_two-requires-clause-one c =
    at_item view (λ (one : Data). depth one ≤ max_depth) c.in-Some.steps.now 0 c.one-item-then-steps-lt3.result
    (list_shallow (codes "walks") (view c.args.value.now) (map view c.in-Some.steps.now) max_depth (sym c.in-Some.ensures) c.requires.nests)
    (omega (arith, c.in-len2.len_at_least)) c.one-item-then-steps-lt3.is

pub by_two-requires-clause-other : goal.by_two-requires-clause-other
by_two-requires-clause-other c =
    at_item view (λ (one : Data). depth one ≤ max_depth) c.in-Some.steps.now 1 c.other-item.result
    (list_shallow (codes "walks") (view c.args.value.now) (map view c.in-Some.steps.now) max_depth (sym c.in-Some.ensures) c.requires.nests)
    (omega (arith, c.in-len2.len_at_least)) c.other-item.is

pub returns-in-len2-clause-shown : goal.returns-in-len2-clause-shown
returns-in-len2-clause-shown c =
    let setting = c.args.checker.now in
    let query = c.args.asked.now.query in
    let rtype = c.args.asked.now.rtype in
    let value = view c.args.value.now in
    let one = view c.one-item-then-steps-lt3.result in
    let other = view c.other-item.result in
    let at : list_at (codes "walks") value ≡ Some (one ∷ other ∷ []) =
    sym c.in-Some.ensures ∙ ap (λ (steps : List Value). Some (map view steps))
    (only_two c.in-Some.steps.now c.one-item-then-steps-lt3.result c.other-item.result c.in-len2.len_at_least c.in-len2.len_below
    c.one-item-then-steps-lt3.is c.other-item.is) in
    let written = subst (IsWritten value) (sym c.as_slice-in-len2.ensures.value) c.in_ok-text.ensures in
    IfOk-weaker c.by_two.result _ _
    (λ shown told. (
      (λ e. two_by_walks setting query rtype value one other ((told value written).0 e)),
      (λ by. (told value written).1 (walks_by_two setting query rtype value one other at by)),
    ))
    c.by_two.ensures.shown

-- another number of walks than one or two shows nothing
unshown : (setting : Setting) (query : Labels) (rtype : RrType) (value : Data) (steps : List Value)
    → list_at (codes "walks") value ≡ Some (map view steps) → (length steps ≡ 1 → ⊥) → (length steps ≡ 2 → ⊥)
    → (answer : Result Bool NoMemory) → answer ≡ Ok false → IfOk answer (λ shown. (shown ≡ true) ↔ ByWalks setting query rtype value)
unshown setting query rtype value steps at not_one not_two answer is =
    subst (λ (said : Result Bool NoMemory). IfOk said (λ shown. (shown ≡ true) ↔ ByWalks setting query rtype value)) (sym is) (
      (λ e. absurd (true≢false (sym e))),
      (λ by. absurd (no_other_steps setting query rtype value (map view steps) at
          (λ one e. not_one (sym (length-map steps view) ∙ ap length e)) (λ one other e. not_two (sym (length-map steps view) ∙ ap length e)) by)),
    )

pub returns-clause-shown : goal.returns-clause-shown
returns-clause-shown c =
    let steps = c.in-Some.steps.now in
    elim c.if-steps-lt1.branch [
      | in_default-steps w ↦ (
          let few = w.in_default-steps.len_below in
          unshown c.args.checker.now c.args.asked.now.query c.args.asked.now.rtype (view c.args.value.now) steps (sym c.in-Some.ensures)
          (λ e. absurd (omega (arith, e, few))) (λ e. absurd (omega (arith, e, few))) c.if-steps-lt1.result w.result-is)
      | in_default-steps-2 w ↦ (
          let many = w.in_default-steps.len_at_least in
          unshown c.args.checker.now c.args.asked.now.query c.args.asked.now.rtype (view c.args.value.now) steps (sym c.in-Some.ensures)
          (λ e. absurd (omega (arith, e, many))) (λ e. absurd (omega (arith, e, many))) c.if-steps-lt1.result w.result-is)
    ]
