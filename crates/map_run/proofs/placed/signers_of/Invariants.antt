-- So far there are the signers of the first records.
use Rattle.std.proofs.Common.{◌≡◌, map, take}
use Rattle.map_run.specs.Chain.{signers_of}
use Rattle.map_run.proofs.placed.signers_of.Given as goal

abbrev pub invariant-loop-rr : goal.invariant-loop-rr
invariant-loop-rr l = l.signers ≡ signers_of l.row (map (λ rr. rr.now) (take l.rr-index l.rrs))
