use Rattle.std.proofs.Common.{◌≡◌, ◌∷◌, ◌++◌, map, drop}
use Rattle.zone_tree.proofs.owners.put_run.Given as goal

-- the records so far, and then the others of the run
abbrev pub invariant-loop-rr : goal.invariant-loop-rr
invariant-loop-rr l =
    map (λ rr. rr.now) l.rrs.items ++ drop l.rr-index l.run.rest.now ≡ map (λ rr. rr.now) l.fn.rrs.items ++ l.run.first.now ∷ l.run.rest.now
