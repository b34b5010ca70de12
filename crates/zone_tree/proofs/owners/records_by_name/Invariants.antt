use Rattle.std.proofs.Common.{◌≡◌, ℕ, ◌<◌, ◌≤◌, [], All, map, drop, length, get_or}
use Rattle.zone_tree.specs.OwnedData.{written_out, IsFormWithin}
use Rattle.zone_tree.specs.OwnedLists.{IsWithin}
use Rattle.zone_tree.specs.Owners.{data_of_runs}
use Rattle.zone_tree.specs.Records.{TellsData}
use Rattle.zone_tree.specs.Runs.{owner_of}
use Rattle.zone_tree.proofs.SortedTree.{InOrder}
use Rattle.zone_tree.proofs.owners.records_by_name.Given as goal

-- what tells of the names so far; the runs left are those of the names to come, in order from the next one on
abbrev pub invariant-loop-name : goal.invariant-loop-name
invariant-loop-name l = record {
  within : l.at ≤ length l.runs;
  many : length l.forms.items ≡ l.name-index;
  lists : All (IsWithin l.lists) l.lists.names.items;
  forms : All (IsFormWithin l.lists) l.forms.items;
  each : (k : ℕ) (d : _) → k < l.name-index → TellsData (data_of_runs l.runs (get_or l.names k [])) (written_out l.lists (get_or l.forms.items k d));
  left : (k : ℕ) → l.name-index ≤ k → k < length l.names
      → data_of_runs (drop l.at l.runs) (get_or l.names k []) ≡ data_of_runs l.runs (get_or l.names k []);
  order : l.name-index < length l.names → InOrder (get_or l.names l.name-index []) (drop l.at (map owner_of l.runs));
}
