use Rattle.std.proofs.Common.{◌++◌, ap, sym, ◌∙◌, append_assoc, take, drop, arith}
use Rattle.std.proofs.KnownBytes.{Appends-trans}
use Rattle.std.proofs.lemmas.List.{take-append-drop}
use Rattle.io_edges.proofs.Passing.{further_passed}
use Rattle.run_endings.proofs.Pieces.{on_err}
use Rattle.run_endings.proofs.output.write_all.Goals as goal

pub loop-rest-preserved : goal.loop-rest-preserved
loop-rest-preserved g c =
    let front = c.loop-rest.invariant.front in
    let rest = c.loop-rest.rest.now in
    let count = c.in_ok-count.count in
    record {
      front = front ++ take count rest;
      splits = c.loop-rest.invariant.splits ∙ (ap (λ r. front ++ r) (sym (take-append-drop count rest)) ∙ (sym (append_assoc front (take count rest) (drop count rest)) ∙ ap (λ r. (front ++ take count rest) ++ r) (sym c.split_at.ensures.back)));
      taken = Appends-trans _ _ _ _ _ c.loop-rest.invariant.taken c.in_ok-count.ensures.appends;
      passed = Appends-trans _ _ _ _ _ c.loop-rest.invariant.passed c.in_ok-count.ensures.passes;
      never_falls = omega (arith, c.in_ok-count.ensures.never_falls);
    }

-- what was passed on before, and the front of the rest that the failed call passed on
pub returns-in_err-count-clause-passes_front : goal.returns-in_err-count-clause-passes_front
returns-in_err-count-clause-passes_front g c =
    let before = c.loop-rest.invariant in
    on_err c.from_residual.result
    (further_passed _ (g.S.Sink.passed c.loop-rest.sink) _ before.front c.loop-rest.rest.now _ before.splits before.passed c.in_err-count.ensures.passes_front)
