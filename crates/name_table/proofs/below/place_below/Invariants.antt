use Rattle.std.proofs.Common.{◌≡◌, ◌-◌, ◌<◌, ◌≤◌, ◌++◌, ◌∷◌, [], length, Less, Greater}
use Rattle.std.specs.List.{AllWithin}
use Rattle.dns_data.specs.Name.{name_cmp}
use Rattle.name_table.specs.Table.{name_at}
use Rattle.name_table.proofs.below.place_below.Given as goal

-- the names before the part that is left stand before the name with the label, and those behind it stand behind that one
abbrev pub invariant-loop-low : goal.invariant-loop-low
invariant-loop-low l = record {
  from : l.place < l.low;
  rising : l.low ≤ l.high;
  within : l.high ≤ length l.names;
  before : AllWithin (λ other. name_cmp other (name_at l.names l.place ++ l.label ∷ []) ≡ Less) l.names 0 l.low;
  behind : AllWithin (λ other. name_cmp other (name_at l.names l.place ++ l.label ∷ []) ≡ Greater) l.names l.high (length l.names);
}

abbrev pub decreases-loop-low : goal.decreases-loop-low
decreases-loop-low l = l.high - l.low
