use Rattle.std.proofs.Common.{length}
use Rattle.dns_data.proofs.Spellings.{IsSpelling}
use Rattle.dns_data.proofs.spelling.spell.Given as goal

abbrev pub invariant-loop-rest : goal.invariant-loop-rest
invariant-loop-rest l = IsSpelling (length l.fn.out) l.text l.rest l.out l.start

abbrev pub decreases-loop-rest : goal.decreases-loop-rest
decreases-loop-rest l = length l.rest
