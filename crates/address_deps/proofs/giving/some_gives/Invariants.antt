use Rattle.std.proofs.Common.{◌≡◌, length}
use Rattle.address_deps.specs.Giving.{AreGiving, names_followed, unmarked}
use Rattle.address_deps.proofs.giving.some_gives.Given as goal

-- from each marked node a path gives an address
abbrev pub invariant-loop : goal.invariant-loop
invariant-loop l = record {
  room : length l.giving ≡ length l.nodes;
  giving : AreGiving (names_followed l.hosts l.followed) l.nodes l.giving;
}

abbrev pub decreases-loop : goal.decreases-loop
decreases-loop l = unmarked l.giving
