use Rattle.std.proofs.Common.{◌≡◌, ◌++◌, length}
use Rattle.rdata_forms.specs.Texts.{resolved}
use Rattle.rdata_forms.proofs.texts.resolve.Given as goal

-- the octets so far and those that are left are the text's
abbrev pub invariant-loop-octet : goal.invariant-loop-octet
invariant-loop-octet l = l.out ++ resolved l.rest ≡ resolved l.text

abbrev pub decreases-loop-octet : goal.decreases-loop-octet
decreases-loop-octet l = length l.rest
