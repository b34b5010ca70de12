use Rattle.std.proofs.Common.{◌∙◌, ◌++◌, ◌∷◌, [], List, append_assoc, append-nil, sym, ap, subst}
use Rattle.std.specs.List.{AllZip}
use Rattle.part_run.specs.KeptEntry.{IsClassedText}
use Rattle.part_run.specs.declared.entry.KeptEntry.{KeptEntry}
use Rattle.part_run.proofs.EntriesClassed.{one_more_text}
use Rattle.part_run.proofs.classed.classed_texts.Goals as goal

pub loop-one-init : goal.loop-one-init
loop-one-init c = ([], c.into_iter-one-iterator.ensures.into_iter_gives.0, subst (AllZip (IsClassedText c.args.graph.now) []) (sym c.new-texts.ensures) tt)

pub loop-one-preserved : goal.loop-one-preserved
loop-one-preserved c =
    let graph = c.args.graph.now in
    let one = c.in-Some.one in
    let left = c.next.new.self in
    let (passed, so, are) = c.loop-one.invariant in (
      passed ++ one ∷ [],
      append_assoc passed (one ∷ []) left ∙ ap (λ (l : List KeptEntry). passed ++ l) (sym c.in-Some.ensures.steps) ∙ so,
      subst (AllZip (IsClassedText graph) (passed ++ one ∷ [])) (sym c.in_ok-push.ensures.ok)
          (one_more_text graph passed c.loop-one.texts one c.in_ok-classed_text.field-0 are c.in_ok-classed_text.ensures),
    )

pub returns : goal.returns
returns c =
    let (passed, so, are) = c.loop-one.invariant in
    subst (λ (kept : List KeptEntry). AllZip (IsClassedText c.args.graph.now) kept c.loop-one.texts)
    (sym (append-nil passed) ∙ ap (λ (l : List KeptEntry). passed ++ l) (sym c.in-None.ensures.steps.0) ∙ so) are
