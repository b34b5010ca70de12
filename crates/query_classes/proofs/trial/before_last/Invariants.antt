use Rattle.std.proofs.Common.{◌≡◌, ◌-◌, ◌≤◌, ◌++◌, length, take, replicate}
use Rattle.query_classes.proofs.trial.before_last.Given as goal

-- behind the place all octets are 255
abbrev pub invariant-loop-place : goal.invariant-loop-place
invariant-loop-place l = record {
  within : l.place ≤ length l.octets;
  last : l.octets ≡ take l.place l.octets ++ replicate (length l.octets - l.place) 255;
}

abbrev pub decreases-loop-place : goal.decreases-loop-place
decreases-loop-place l = l.place
