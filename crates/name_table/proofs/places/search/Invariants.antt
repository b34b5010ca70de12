use Rattle.std.proofs.Common.{◌≡◌, ◌≤◌, ◌-◌, length, Less, Greater}
use Rattle.std.specs.List.{AllWithin}
use Rattle.dns_data.specs.Name.{name_cmp}
use Rattle.name_table.proofs.places.search.Given as goal

-- the names before the part that is left stand before the name, and those behind it stand behind the name
abbrev pub invariant-loop-low : goal.invariant-loop-low
invariant-loop-low l = record {
  rising : l.low ≤ l.high;
  within : l.high ≤ length l.names;
  before : AllWithin (λ other. name_cmp other l.labels ≡ Less) l.names 0 l.low;
  behind : AllWithin (λ other. name_cmp other l.labels ≡ Greater) l.names l.high (length l.names);
}

abbrev pub decreases-loop-low : goal.decreases-loop-low
decreases-loop-low l = l.high - l.low
