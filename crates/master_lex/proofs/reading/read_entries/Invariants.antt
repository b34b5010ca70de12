-- The lexer stands for the pieces so far.
use Rattle.std.proofs.Common.{◌≡◌, ℕ, List, [], ◌++◌, drop, false}
use Rattle.std.specs.List.{flat_map}
use Rattle.master_lex.specs.Lexer.{IsLexerOf}
use Rattle.master_lex.proofs.reading.read_entries.Given as goal

abbrev pub invariant-loop-piece : goal.invariant-loop-piece
invariant-loop-piece l = record {
  unended : l.lexer.finished ≡ false;
  stands : (so_far : List ℕ) × (IsLexerOf l.lexer so_far [] × (so_far ++ flat_map (λ piece. piece.now) (drop l.piece-index l.pieces) ≡ flat_map (λ piece. piece.now) l.pieces));
}
