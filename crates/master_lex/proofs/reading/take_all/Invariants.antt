-- What was taken so far is what was given, and with each entry less is left.
use Rattle.std.proofs.Common.{◌≡◌, ℕ, List, [], length, true}
use Rattle.master_lex.specs.Lexer.{IsLexerOf, left}
use Rattle.master_lex.proofs.reading.take_all.Given as goal

abbrev pub invariant-loop-entry : goal.invariant-loop-entry
invariant-loop-entry l = record {
  finished : l.lexer.finished ≡ true;
  stands : (text : List ℕ) → IsLexerOf l.initial.lexer text [] → IsLexerOf l.lexer text l.entries;
}

abbrev pub decreases-loop-entry : goal.decreases-loop-entry
decreases-loop-entry l = length (left l.lexer)
