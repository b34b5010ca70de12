use Rattle.std.proofs.Common.{◌≡◌, ℕ, ◌-◌, ◌<◌, ◌≤◌, [], length, get_or}
use Rattle.zone_tree.specs.FirstDecider.{IsFirstDecider}
use Rattle.zone_tree.proofs.first_deciders.first_deciders.Given as goal

-- the first deciders of the names so far, the last of them kept
abbrev pub invariant-loop-place : goal.invariant-loop-place
invariant-loop-place l = record {
  within : l.place ≤ length l.names;
  before : IsFirstDecider l.zone l.names (get_or l.names (l.place - 1) []) l.before;
  many : length l.firsts.items ≡ l.place;
  each : (k d : ℕ) → k < l.place → IsFirstDecider l.zone l.names (get_or l.names k []) (get_or l.firsts.items k d);
}
