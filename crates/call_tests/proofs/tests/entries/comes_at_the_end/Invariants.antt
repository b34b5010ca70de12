-- as many octets were fed as places passed, and the text hasn't ended
use Rattle.std.proofs.Common.{◌≡◌, false}
use Rattle.call_tests.proofs.tests.entries.comes_at_the_end.Given as goal

abbrev pub invariant-loop-place : goal.invariant-loop-place
invariant-loop-place l = record {
  fed : l.lexer.fed ≡ l.place;
  open_still : l.lexer.finished ≡ false;
}
