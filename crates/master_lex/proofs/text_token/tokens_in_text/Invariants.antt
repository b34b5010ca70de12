-- The tokens so far.
use Rattle.std.proofs.Common.{◌≡◌, take}
use Rattle.master_lex.proofs.text_token.tokens_in_text.Given as goal

abbrev pub invariant-loop-token : goal.invariant-loop-token
invariant-loop-token l = l.same.items ≡ take l.token-index l.tokens
