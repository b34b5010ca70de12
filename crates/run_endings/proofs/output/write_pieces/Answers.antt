use Rattle.std.proofs.Common.{◌∙◌, suc, List, ℕ, ◌∷◌, drop, drop-cons, ap, sym, subst, arith}
use Rattle.io_edges.specs.Passed.{PassedFront}
use Rattle.run_endings.specs.Writing.{TookProperFront}
use Rattle.run_endings.proofs.Pieces.{front_of_pieces, passed_of_pieces, on_err, still_rose}
use Rattle.run_endings.proofs.output.write_pieces.Goals as goal

pub returns-in_err-write_all-clause-err : goal.returns-in_err-write_all-clause-err
returns-in_err-write_all-clause-err g c =
    let pieces = c.args.pieces.now in
    let i = c.loop-piece.piece-index in
    on_err c.from_residual.result (front_of_pieces pieces i c.piece-item.result
    (drop-cons pieces i c.piece-item.result c.loop-piece-test.true ∙ ap (λ one. one ∷ drop (suc i) pieces) (sym c.piece-item.is)) _ _ _
    c.loop-piece.invariant.taken
    (subst (λ (text : List ℕ). TookProperFront (g.S.Sink.taken c.loop-piece.sink) (g.S.Sink.taken c.write_all.new.sink) text) c.items.ensures c.in_err-write_all.ensures.err))

pub returns-in_err-write_all-clause-passes_front : goal.returns-in_err-write_all-clause-passes_front
returns-in_err-write_all-clause-passes_front g c =
    let pieces = c.args.pieces.now in
    let i = c.loop-piece.piece-index in
    on_err c.from_residual.result (passed_of_pieces pieces i c.piece-item.result
    (drop-cons pieces i c.piece-item.result c.loop-piece-test.true ∙ ap (λ one. one ∷ drop (suc i) pieces) (sym c.piece-item.is)) _ _ _
    c.loop-piece.invariant.passed
    (subst (λ (text : List ℕ). PassedFront (g.S.Sink.passed c.loop-piece.sink) (g.S.Sink.passed c.write_all.new.sink) text) c.items.ensures c.in_err-write_all.ensures.passes_front))

pub returns-in_err-write_all-clause-cause : goal.returns-in_err-write_all-clause-cause
returns-in_err-write_all-clause-cause g c =
    let never = c.loop-piece.invariant.never_falls in
    on_err c.from_residual.result (still_rose _ _ _ never c.in_err-write_all.ensures.cause)

pub returns-in_err-write_all-clause-never_falls : goal.returns-in_err-write_all-clause-never_falls
returns-in_err-write_all-clause-never_falls g c = omega (arith, c.loop-piece.invariant.never_falls, c.write_all.ensures.never_falls)
