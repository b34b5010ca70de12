-- So far there are those of the first signers that are tried.
use Rattle.std.proofs.Common.{◌≡◌, filter, map, take}
use Rattle.key_chain.specs.Keys.{is_tried}
use Rattle.map_run.proofs.placed.tried_of.Given as goal

abbrev pub invariant-loop-one : goal.invariant-loop-one
invariant-loop-one l = map (λ one. one.now) l.some ≡ filter (λ one. is_tried l.strong one.signer) (take l.one-index l.signers)
