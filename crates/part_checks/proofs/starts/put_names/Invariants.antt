use Rattle.std.proofs.Common.{◌≡◌, ◌++◌, map, take}
use Rattle.dns_data.specs.declared.rdata.Rr.{Rr}
use Rattle.part_checks.proofs.starts.put_names.Given as goal

-- and the owners so far
abbrev pub invariant-loop-rr : goal.invariant-loop-rr
invariant-loop-rr l = l.names ≡ l.initial.names ++ map (λ (rr : Rr). rr.owner) (take l.rr-index l.zone.rrs)
