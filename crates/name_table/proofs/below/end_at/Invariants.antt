use Rattle.std.proofs.Common.{◌≡◌, ◌-◌, ◌<◌, ◌≤◌, true, false, length}
use Rattle.dns_data.specs.Name.{is_prefix}
use Rattle.name_table.specs.Table.{name_at}
use Rattle.name_table.proofs.below.end_at.Given as goal

-- the lower name is at or below the one at the place, and the higher one isn't
abbrev pub invariant-loop-high : goal.invariant-loop-high
invariant-loop-high l = record {
  from : l.place ≤ l.low;
  rising : l.low < l.high;
  within : l.high ≤ length l.names;
  moves : 0 < l.step;
  inside : is_prefix (name_at l.names l.place) (name_at l.names l.low) ≡ true;
  outside : l.high < length l.names → is_prefix (name_at l.names l.place) (name_at l.names l.high) ≡ false;
}

abbrev pub decreases-loop-high : goal.decreases-loop-high
decreases-loop-high l = l.high - l.low
