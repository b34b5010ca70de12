use Rattle.std.proofs.Common.{◌≡◌, ◌<◌, ℕ, true, take}
use Rattle.dns_data.specs.Name.{Labels}
use Rattle.part_checks.specs.Marks.{is_marked}
use Rattle.part_checks.proofs.marks.NameMarks.put_fronts.Given as goal

-- the shorter prefixes are marked, and what was marked before
abbrev pub invariant-loop-count : goal.invariant-loop-count
invariant-loop-count l = record {
  marked : (k : ℕ) → k < l.count → is_marked l.self (take k l.name) ≡ true;
  stays : (other : Labels) → is_marked l.initial.self other ≡ true → is_marked l.self other ≡ true;
}
