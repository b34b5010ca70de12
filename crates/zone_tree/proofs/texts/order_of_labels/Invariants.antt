use Rattle.std.proofs.Common.{◌≡◌, ◌≤◌, ◌-◌, ◌++◌, ℕ, List, drop}
use Rattle.std.specs.Cmp.Lexicographic.{slice_cmp}
use Rattle.std.specs.Ordering.{nat_cmp}
use Rattle.dns_data.specs.Spelling.{label_text}
use Rattle.zone_tree.proofs.texts.order_of_labels.Given as goal

-- the texts of what is left stand as the whole ones do
abbrev pub invariant-loop-place : goal.invariant-loop-place
invariant-loop-place l = record {
  within : l.place ≤ l.both;
  same : (more others : List ℕ) → slice_cmp nat_cmp (label_text (drop l.place l.left) ++ more) (label_text (drop l.place l.right) ++ others)
      ≡ slice_cmp nat_cmp (label_text l.left ++ more) (label_text l.right ++ others);
}

abbrev pub decreases-loop-place : goal.decreases-loop-place
decreases-loop-place l = l.both - l.place
