use Rattle.std.proofs.Common.{◌≡◌, List, [], ◌∷◌, Contains, true≢false, refl, sym, ◌∙◌, subst}
use Rattle.net_model.specs.Step.{Setting}
use Rattle.net_model.specs.declared.walk.Walk.{Walk}
use Rattle.report_json.specs.Plain.{IsWritten}
use Rattle.report_json.specs.Walks.{walk_value}
use Rattle.serde_json.specs.Data.{Data}
use Rattle.serde_json.specs.View.{view}
use Rattle.report_check.specs.Entries.{ByOther, IsShownBy}
use Rattle.report_check.proofs.Searched.{is_there, none_at_all, none_more}
use Rattle.report_check.proofs.right_entry.by_two.Goals as goal
use Rattle.report_check.proofs.right_entry.by_two.Goals.{else-branch-via-then-branch+in_ok-by_other+else-branch-2, else-branch-via-else-branch}

pub loop-walk-preserved : goal.loop-walk-preserved
loop-walk-preserved c =
    let query = c.args.asked.now.query in
    let rtype = c.args.asked.now.rtype in
    let walks = c.items-walk-items.result.now in
    let others = c.others.inside.items.items in
    let index = c.loop-walk.walk-index in
    let walk = c.walk-item.result in
    let one = view c.args.one.now in
    let other = view c.args.other.now in
    let inv = c.loop-walk.invariant in
    let So = λ (value : Data) (w : Walk). (one ≡ walk_value w) × ByOther c.args.checker.now query rtype w others other value in
    elim c.else-branch.branch [
      | else-branch-via-then-branch+in_ok-by_other+else-branch-2 w ↦ record {
        kept = w.checker-is ∙ w.in_ok-by_other.ensures.kept ∙ inv.kept;
        none = λ value written.
            none_more (So value) walks index (inv.none value written) walk c.loop-walk-test.true c.walk-item.is
            (λ so. true≢false (sym ((w.in_ok-by_other.ensures.shown other value
            (subst (IsWritten other) (sym w.as_slice-then-branch.ensures.value) c.in_ok-other.ensures) written).1
            (subst (λ (all : List Walk). ByOther c.loop-walk.checker query rtype walk all other value) (c.others.view_is ∙ sym w.items.ensures)
            (subst (λ (s : Setting). ByOther s query rtype walk others other value) (sym inv.kept) so.1))) ∙ w.if-branch-2.false));
      }
      | else-branch-via-else-branch w ↦ record {
        kept = w.checker-is ∙ inv.kept;
        none = λ value written.
            none_more (So value) walks index (inv.none value written) walk c.loop-walk-test.true c.walk-item.is
            (λ so. true≢false (sym ((c.in_ok-is_walk_text.ensures one (subst (IsWritten one) (sym c.as_slice.ensures.value) c.in_ok-one.ensures)).1 so.0)
            ∙ w.if-branch.false));
      }
    ]

pub returns-then-branch-2-clause-shown : goal.returns-then-branch-2-clause-shown
returns-then-branch-2-clause-shown c = λ value written.
    let query = c.args.asked.now.query in
    let rtype = c.args.asked.now.rtype in
    let walk = c.walk-item.result in
    let one = view c.args.one.now in
    let other = view c.args.other.now in (
      (λ e.
          let by : ByOther c.loop-walk.checker query rtype walk c.items.result.now other value =
          (c.in_ok-by_other.ensures.shown other value (subst (IsWritten other) (sym c.as_slice-then-branch.ensures.value) c.in_ok-other.ensures) written).0
          c.if-branch-2.true in
          record {
            walk = walk;
            is_walk = c.in_ok-walks.ensures.walks walk (subst (λ (walks : List Walk). Contains walks walk) c.items-walk-items.ensures
                (is_there c.items-walk-items.result.now c.loop-walk.walk-index walk c.loop-walk-test.true c.walk-item.is));
            steps_are = (c.in_ok-is_walk_text.ensures one (subst (IsWritten one) (sym c.as_slice.ensures.value) c.in_ok-one.ensures)).0 c.if-branch.true;
            other = by.walk;
            is_other = c.in_ok-others.ensures.walks by.walk (subst (λ (walks : List Walk). Contains walks by.walk) c.items.ensures by.among);
            others_are = by.steps_are;
            shown = subst (λ (s : Setting). IsShownBy s query rtype (walk ∷ by.walk ∷ []) value) c.loop-walk.invariant.kept by.shown;
          }),
      (λ by. refl),
    )

pub returns-clause-shown : goal.returns-clause-shown
returns-clause-shown c = λ value written. (
  (λ e. absurd (true≢false (sym e))),
  (λ by. absurd (none_at_all
      (λ (w : Walk). (view c.args.one.now ≡ walk_value w)
      × ByOther c.args.checker.now c.args.asked.now.query c.args.asked.now.rtype w c.others.inside.items.items (view c.args.other.now) value)
      c.items-walk-items.result.now c.loop-walk.walk-index (c.loop-walk.invariant.none value written) c.loop-walk-test.false by.walk
      (subst (λ (walks : List Walk). Contains walks by.walk) (sym c.items-walk-items.ensures) (c.in_ok-walks.ensures.each by.walk by.is_walk by.steps_are)) (
        by.steps_are,
        record {
          walk = by.other;
          among = subst (λ (walks : List Walk). Contains walks by.other) (sym c.others.view_is)
              (c.in_ok-others.ensures.each by.other by.is_other by.others_are);
          steps_are = by.others_are;
          shown = by.shown;
        },
      ))),
)
