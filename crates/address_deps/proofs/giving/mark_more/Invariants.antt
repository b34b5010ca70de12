use Rattle.std.proofs.Common.{◌≡◌, ℕ, List, ◌≤◌, ◌<◌, true, false, length, Some}
use Rattle.std.specs.Prelude.{slice_get}
use Rattle.std.specs.List.{list_any}
use Rattle.address_deps.specs.Giving.{AreGiving, is_marked, names_followed, unmarked}
use Rattle.address_deps.specs.Addresses.{turn_gives}
use Rattle.address_deps.specs.declared.addresses.Turn.{Turn}
use Rattle.address_deps.proofs.giving.mark_more.Given as goal

-- the nodes that were looked at
abbrev pub invariant-loop-left : goal.invariant-loop-left
invariant-loop-left l = record {
  within : l.left ≤ length l.nodes;
  room : length l.marks ≡ length l.nodes;
  giving : AreGiving (names_followed l.hosts l.followed) l.nodes l.marks;
  same : l.more ≡ false → l.marks ≡ l.initial.marks;
  fewer : l.more ≡ true → unmarked l.marks < unmarked l.initial.marks;
  closed : l.more ≡ false → (at : ℕ) (turns : List Turn) → l.left ≤ at → slice_get l.nodes at ≡ Some turns → is_marked l.marks at ≡ false
      → list_any (turn_gives (names_followed l.hosts l.followed) (is_marked l.marks) true) turns ≡ false;
}

abbrev pub decreases-loop-left : goal.decreases-loop-left
decreases-loop-left l = l.left
