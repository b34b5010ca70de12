-- What was taken stands at the end of what was held, and with each entry less is left.
use Rattle.std.proofs.Common.{◌≡◌, ℕ, List, ◌++◌, length}
use Rattle.master_lex.specs.Lexer.{IsLexerOf, left}
use Rattle.master_lex.specs.declared.entry.Entry.{Entry}
use Rattle.master_read.proofs.file.take_all.Given as goal

abbrev pub invariant-loop-entry : goal.invariant-loop-entry
invariant-loop-entry l = record {
  stands : (text : List ℕ) (taken : List Entry) → IsLexerOf l.fn.lexer text taken
      → (more : List Entry) × (l.entries.items ≡ l.fn.entries.items ++ more) × IsLexerOf l.lexer text (taken ++ more);
  finished : l.lexer.finished ≡ l.fn.lexer.finished;
  fed : l.lexer.fed ≡ l.fn.lexer.fed;
}

abbrev pub decreases-loop-entry : goal.decreases-loop-entry
decreases-loop-entry l = length (left l.lexer)
