use Rattle.std.proofs.Common.{◌≡◌, [], ◌∷◌, true≢false, sym, ◌∙◌, subst}
use Rattle.net_model.specs.Step.{Setting}
use Rattle.net_model.specs.declared.walk.Walk.{Walk}
use Rattle.report_json.specs.Walks.{walk_value}
use Rattle.serde_json.specs.Data.{Data}
use Rattle.report_check.specs.Entries.{IsShownBy}
use Rattle.report_check.proofs.Searched.{none_at_all, none_more}
use Rattle.report_check.proofs.TwoWalks.{two_differ}
use Rattle.report_check.proofs.right_entry.by_other.Goals as goal
use Rattle.report_check.proofs.right_entry.by_other.Goals.{else-branch-via-then-branch+then-differ+in_ok-shows_answers+else-branch-2, else-branch-via-then-branch+else-differ, else-branch-via-else-branch}

pub loop-walk-preserved : goal.loop-walk-preserved
loop-walk-preserved c =
    let query = c.args.asked.now.query in
    let rtype = c.args.asked.now.rtype in
    let walks = c.args.walks.now in
    let index = c.loop-walk.walk-index in
    let one = c.args.one.now in
    let walk = c.walk-item.result in
    let inv = c.loop-walk.invariant in
    let So = λ (others value : Data) (w : Walk). (others ≡ walk_value w) × IsShownBy c.args.checker.now query rtype (one ∷ w ∷ []) value in
    elim c.else-branch.branch [
      | else-branch-via-then-branch+then-differ+in_ok-shows_answers+else-branch-2 w ↦ record {
        kept = w.checker-is ∙ w.in_ok-shows_answers.ensures.kept ∙ inv.kept;
        none = λ others value stepped written.
            none_more (So others value) walks index (inv.none others value stepped written) walk c.loop-walk-test.true c.walk-item.is
            (λ so. true≢false (sym ((w.in_ok-shows_answers.ensures.shown value written).1
            (subst (λ (s : Setting). IsShownBy s query rtype (one ∷ walk ∷ []) value) (sym inv.kept) so.1)) ∙ w.if-branch-2.false));
      }
      | else-branch-via-then-branch+else-differ w ↦ record {
        kept = w.checker-is ∙ inv.kept;
        none = λ others value stepped written.
            none_more (So others value) walks index (inv.none others value stepped written) walk c.loop-walk-test.true c.walk-item.is
            (λ so. true≢false (sym (w.differ.ensures.1 (two_differ c.args.checker.now query rtype one walk value so.1)) ∙ w.if-differ.false));
      }
      | else-branch-via-else-branch w ↦ record {
        kept = w.checker-is ∙ inv.kept;
        none = λ others value stepped written.
            none_more (So others value) walks index (inv.none others value stepped written) walk c.loop-walk-test.true c.walk-item.is
            (λ so. true≢false (sym ((c.in_ok-is_walk_text.ensures others stepped).1 so.0) ∙ w.if-branch.false));
      }
    ]

pub returns-clause-shown : goal.returns-clause-shown
returns-clause-shown c = λ others value stepped written. (
  (λ e. absurd (true≢false (sym e))),
  (λ by. absurd (none_at_all
      (λ (w : Walk). (others ≡ walk_value w) × IsShownBy c.args.checker.now c.args.asked.now.query c.args.asked.now.rtype (c.args.one.now ∷ w ∷ []) value)
      c.args.walks.now c.loop-walk.walk-index (c.loop-walk.invariant.none others value stepped written) c.loop-walk-test.false by.walk by.among (by.steps_are, by.shown))),
)
