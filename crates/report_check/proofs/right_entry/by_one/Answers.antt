use Rattle.std.proofs.Common.{◌≡◌, List, [], ◌∷◌, Contains, true≢false, refl, sym, ◌∙◌, subst}
use Rattle.net_model.specs.Step.{Setting}
use Rattle.net_model.specs.Walk.{IsWalk}
use Rattle.net_model.specs.declared.walk.Walk.{Walk}
use Rattle.report_json.specs.Plain.{IsWritten}
use Rattle.report_json.specs.Walks.{walk_value}
use Rattle.serde_json.specs.Data.{Data}
use Rattle.serde_json.specs.View.{view}
use Rattle.report_check.specs.Entries.{IsShownBy}
use Rattle.report_check.proofs.Searched.{is_there, none_at_all, none_more}
use Rattle.report_check.proofs.right_entry.by_one.Goals as goal
use Rattle.report_check.proofs.right_entry.by_one.Goals.{else-branch-via-then-branch+in_ok-shows_alone+else-branch-2, else-branch-via-else-branch}

pub shows_alone-requires : goal.shows_alone-requires
shows_alone-requires c =
    let query = c.args.asked.now.query in
    let rtype = c.args.asked.now.rtype in
    let walk = c.walk-item.result in
    subst (λ (s : Setting). IsWalk s query rtype walk) (sym c.loop-walk.invariant.kept)
    (c.in_ok-walks.ensures.walks walk (subst (λ (walks : List Walk). Contains walks walk) c.items-walk-items.ensures
    (is_there c.items-walk-items.result.now c.loop-walk.walk-index walk c.loop-walk-test.true c.walk-item.is)))

pub returns-then-branch-2-clause-shown : goal.returns-then-branch-2-clause-shown
returns-then-branch-2-clause-shown c = λ value written.
    let query = c.args.asked.now.query in
    let rtype = c.args.asked.now.rtype in
    let walk = c.walk-item.result in
    let steps = view c.args.steps.now in (
      (λ e. record {
        walk = walk;
        is_walk = c.in_ok-walks.ensures.walks walk (subst (λ (walks : List Walk). Contains walks walk) c.items-walk-items.ensures
            (is_there c.items-walk-items.result.now c.loop-walk.walk-index walk c.loop-walk-test.true c.walk-item.is));
        steps_are = (c.in_ok-is_walk_text.ensures steps (subst (IsWritten steps) (sym c.as_slice.ensures.value) c.in_ok-steps.ensures)).0 c.if-branch.true;
        shown = subst (λ (s : Setting). IsShownBy s query rtype (walk ∷ []) value) c.loop-walk.invariant.kept
            ((c.in_ok-shows_alone.ensures.shown value written).0 c.if-branch-2.true);
      }),
      (λ by. refl),
    )

pub loop-walk-preserved : goal.loop-walk-preserved
loop-walk-preserved c =
    let query = c.args.asked.now.query in
    let rtype = c.args.asked.now.rtype in
    let walks = c.items-walk-items.result.now in
    let index = c.loop-walk.walk-index in
    let walk = c.walk-item.result in
    let steps = view c.args.steps.now in
    let inv = c.loop-walk.invariant in
    let So = λ (value : Data) (w : Walk). (steps ≡ walk_value w) × IsShownBy c.args.checker.now query rtype (w ∷ []) value in
    elim c.else-branch.branch [
      | else-branch-via-then-branch+in_ok-shows_alone+else-branch-2 w ↦ record {
        kept = w.checker-is ∙ w.in_ok-shows_alone.ensures.kept ∙ inv.kept;
        none = λ value written.
            none_more (So value) walks index (inv.none value written) walk c.loop-walk-test.true c.walk-item.is
            (λ so. true≢false (sym ((w.in_ok-shows_alone.ensures.shown value written).1
            (subst (λ (s : Setting). IsShownBy s query rtype (walk ∷ []) value) (sym inv.kept) so.1)) ∙ w.if-branch-2.false));
      }
      | else-branch-via-else-branch w ↦ record {
        kept = w.checker-is ∙ inv.kept;
        none = λ value written.
            none_more (So value) walks index (inv.none value written) walk c.loop-walk-test.true c.walk-item.is
            (λ so. true≢false (sym ((c.in_ok-is_walk_text.ensures steps (subst (IsWritten steps) (sym c.as_slice.ensures.value) c.in_ok-steps.ensures)).1 so.0)
            ∙ w.if-branch.false));
      }
    ]

pub returns-clause-shown : goal.returns-clause-shown
returns-clause-shown c = λ value written. (
  (λ e. absurd (true≢false (sym e))),
  (λ by. absurd (none_at_all
      (λ (w : Walk). (view c.args.steps.now ≡ walk_value w) × IsShownBy c.args.checker.now c.args.asked.now.query c.args.asked.now.rtype (w ∷ []) value)
      c.items-walk-items.result.now c.loop-walk.walk-index (c.loop-walk.invariant.none value written) c.loop-walk-test.false by.walk
      (subst (λ (walks : List Walk). Contains walks by.walk) (sym c.items-walk-items.ensures) (c.in_ok-walks.ensures.each by.walk by.is_walk by.steps_are))
      (by.steps_are, by.shown))),
)
