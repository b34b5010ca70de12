use Rattle.std.proofs.Common.{◌≡◌, drop}
use Rattle.rdata_forms.proofs.HexTokens.{has_digits}
use Rattle.rdata_forms.proofs.generic.are_digits.Given as goal

-- the tokens have their digits where those that are left have so many
abbrev pub invariant-loop-token : goal.invariant-loop-token
invariant-loop-token l = has_digits (drop l.token-index l.tokens) l.left ≡ has_digits l.tokens l.count
