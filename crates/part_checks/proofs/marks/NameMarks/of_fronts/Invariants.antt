use Rattle.std.proofs.Common.{◌≡◌, ◌++◌, true, [], All, take}
use Rattle.dns_data.specs.Name.{Labels}
use Rattle.part_checks.specs.Marks.{is_marked}
use Rattle.part_checks.proofs.marks.NameMarks.of_fronts.Given as goal

-- the root and the prefixes of the names so far are marked
abbrev pub invariant-loop-name : goal.invariant-loop-name
invariant-loop-name l = record {
  root : is_marked l.all [] ≡ true;
  marked : All (λ (name : Labels). (above below : Labels) → above ++ below ≡ name → is_marked l.all above ≡ true) (take l.name-index l.names);
}
