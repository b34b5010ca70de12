-- So far there are those of the first signers that match no key.
use Rattle.std.proofs.Common.{◌≡◌, map, take}
use Rattle.map_run.specs.Chain.{unmatched}
use Rattle.map_run.proofs.placed.unmatched_of.Given as goal

abbrev pub invariant-loop-one : goal.invariant-loop-one
invariant-loop-one l = map (λ one. one.now) l.others ≡ unmatched l.keys (map (λ one. one.now) (take l.one-index l.signers))
