-- Marks of queued states, by which one is found without a pass over the others. The contracts of inner calls alone cite it.
use Rattle.std.specs.Prelude.{◌≡◌, ℕ, true, List, Contains}
use Rattle.std.specs.Borrow.{Bor}
use Rattle.std.specs.BTreeSet as tree
use Rattle.std.specs.Ordering.{nat_cmp, ordering_then}
use Rattle.std.specs.declared.cmp.Ordering.{Ordering}
use Rattle.dns_data.specs.Name.{Labels, name_cmp}
use Rattle.straight_walks.specs.declared.queue.Queued.{Queued}

-- the order of marks: by how many labels the zone cut has, and then by the server's name
abbrev pub mark_cmp : ℕ × Bor Labels → ℕ × Bor Labels → Ordering
mark_cmp one other = ordering_then (nat_cmp one.0 other.0) (name_cmp one.1.now other.1.now)

-- each mark is one of a queued state
abbrev pub AreMarksOf : List Queued → tree.BTreeSet (ℕ × Bor Labels) → Type 0
AreMarksOf states marks =
    (mark : ℕ × Bor Labels) → tree.contains mark_cmp marks mark ≡ true → (one : Queued) × Contains states one × (one.server.now ≡ mark.1.now) × (one.cut ≡ mark.0)
