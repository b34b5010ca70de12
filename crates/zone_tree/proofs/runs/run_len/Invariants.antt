use Rattle.std.proofs.Common.{◌≡◌, ◌+◌, map, drop}
use Rattle.zone_tree.specs.Owners.{leading}
use Rattle.zone_tree.proofs.runs.run_len.Given as goal

-- all records so far have the owner
abbrev pub invariant-loop-rr : goal.invariant-loop-rr
invariant-loop-rr l = record {
  many : l.count ≡ l.rr-index;
  more : leading l.owner (map (λ rr. rr.owner) (drop l.rr-index l.rrs)) + l.rr-index ≡ leading l.owner (map (λ rr. rr.owner) l.rrs);
}
