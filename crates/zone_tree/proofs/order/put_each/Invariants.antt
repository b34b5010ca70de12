use Rattle.std.proofs.Common.{◌≡◌, ◌≤◌, length, map, drop}
use Rattle.std.specs.List.{AllByRecursion}
use Rattle.dns_data.specs.DataText.{data_text}
use Rattle.net_model.specs.Zone.{data_cmp}
use Rattle.zone_tree.specs.Merged.{put_each}
use Rattle.zone_tree.proofs.order.put_each.Given as goal

-- the last data are in their places
abbrev pub invariant-loop-left : goal.invariant-loop-left
invariant-loop-left l = record {
  within : l.left ≤ length l.items;
  keyed : AllByRecursion (λ entry. entry.0 ≡ data_text entry.1) l.set.entries;
  put : map (λ entry. entry.1) l.set.entries ≡ put_each data_cmp (drop l.left l.items) (map (λ entry. entry.1) l.fn.set.entries);
}

abbrev pub decreases-loop-left : goal.decreases-loop-left
decreases-loop-left l = l.left
