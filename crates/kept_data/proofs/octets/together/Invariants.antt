-- the texts so far, put together
use Rattle.std.proofs.Common.{◌≡◌, take}
use Rattle.kept_data.specs.Octets.{together}
use Rattle.kept_data.proofs.octets.together.Given as goal

abbrev pub invariant-loop-text : goal.invariant-loop-text
invariant-loop-text l = l.all ≡ together (take l.text-index l.texts)
