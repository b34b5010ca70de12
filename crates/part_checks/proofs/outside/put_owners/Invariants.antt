use Rattle.std.proofs.Common.{◌≡◌, ◌⊎◌, All, Contains, Some, take}
use Rattle.std.specs.Prelude.{IfSome}
use Rattle.dns_data.specs.Name.{Labels}
use Rattle.dns_data.specs.declared.rdata.Rr.{Rr}
use Rattle.label_graph.specs.Graphs.{SomeItem}
use Rattle.part_checks.specs.Outside.{first_outside, IsPassed}
use Rattle.part_checks.proofs.outside.put_owners.Given as goal

-- the owners so far are passed, and so is the last of them
abbrev pub invariant-loop-i : goal.invariant-loop-i
invariant-loop-i l = record {
  passed : All (λ (rr : Rr). IsPassed l.sets l.outside rr.owner) (take l.i l.rrs);
  last : IfSome l.before (λ before. IsPassed l.sets l.outside before.now.owner);
  stays : (name : Labels) → Contains l.initial.outside name → Contains l.outside name;
  leaves : (name : Labels) → Contains l.outside name → Contains l.initial.outside name ⊎ SomeItem (λ (rr : Rr). first_outside l.sets rr.owner ≡ Some name) (take l.i l.rrs);
}
