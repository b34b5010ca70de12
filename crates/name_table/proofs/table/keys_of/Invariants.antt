use Rattle.std.proofs.Common.{◌≡◌, ℕ, ◌<◌, [], length, get_or}
use Rattle.name_table.specs.Keys.{IsKeyBelow}
use Rattle.name_table.proofs.table.keys_of.Given as goal

-- the keys of the names so far
abbrev pub invariant-loop-name : goal.invariant-loop-name
invariant-loop-name l = record {
  many : length l.keys.items ≡ l.name-index;
  each : (k d : ℕ) → k < l.name-index → IsKeyBelow (get_or l.names 0 []) (get_or l.names k []) (get_or l.keys.items k d);
}
