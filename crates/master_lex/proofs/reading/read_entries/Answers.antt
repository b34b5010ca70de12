-- The pieces so far and one more; and what is taken of them all.
use Rattle.std.proofs.Common.{List, ℕ, [], subst, arith}
use Rattle.std.specs.List.{flat_map}
use Rattle.master_lex.specs.Lexer.{IsLexerOf}
use Rattle.master_lex.proofs.Values.{joined_step, joined_all}
use Rattle.master_lex.proofs.reading.read_entries.Goals as goal

pub loop-piece-preserved : goal.loop-piece-preserved
loop-piece-preserved c =
    let so_far = c.loop-piece.invariant.stands in
    record {
      unended = c.in_ok-feed.ensures.open;
      stands = (
        _,
        (
          c.in_ok-feed.ensures.stands so_far.0 [] so_far.1.0,
          joined_step (λ piece. piece.now) c.args.pieces.now c.loop-piece.piece-index _ so_far.0 _ c.loop-piece-test.true so_far.1.1,
        ),
      );
    }

pub returns : goal.returns
returns c =
    let text = flat_map (λ piece. piece.now) c.args.pieces.now in
    let so_far = c.loop-piece.invariant.stands in
    let all = joined_all (λ piece. piece.now) c.args.pieces.now c.loop-piece.piece-index so_far.0 text (omega arith) so_far.1.1 in
    let stands : IsLexerOf c.loop-piece.lexer text [] = subst (λ (t : List ℕ). IsLexerOf c.loop-piece.lexer t []) all so_far.1.0 in
    c.take_all.ensures text (c.finish.ensures.stands text [] stands)
