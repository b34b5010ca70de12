-- The tokens so far.
use Rattle.std.proofs.Common.{◌≡◌, take}
use Rattle.master_lex.proofs.text_token.TextEntry.to_entry.Given as goal

abbrev pub invariant-loop-token : goal.invariant-loop-token
invariant-loop-token l = l.tokens.items ≡ take l.token-index l.self.tokens
