use Rattle.std.proofs.Common.{◌≡◌, map, take}
use Rattle.std.specs.Prelude.{IfSome}
use Rattle.dns_data.specs.Name.{is_among}
use Rattle.dns_data.specs.declared.rdata.Rr.{Rr}
use Rattle.part_checks.specs.Parts.{held_by}
use Rattle.part_checks.proofs.owners.held_owners.Given as goal

-- it is known of the owners so far whether they are held, and of the last of them
abbrev pub invariant-loop-rr : goal.invariant-loop-rr
invariant-loop-rr l = record {
  all : l.held.items ≡ map (λ (rr : Rr). is_among (held_by l.sets) rr.owner) (take l.rr-index l.rrs);
  last : IfSome l.before (λ before. l.is_held ≡ is_among (held_by l.sets) before.now.owner);
}
