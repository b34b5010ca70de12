use Rattle.std.proofs.Common.{◌≡◌, take}
use Rattle.rdata_forms.specs.Forms.{written}
use Rattle.rdata_forms.proofs.rdata.copies.Given as goal

abbrev pub invariant-loop-token : goal.invariant-loop-token
invariant-loop-token l = l.copies.items ≡ written (take l.token-index l.tokens)
