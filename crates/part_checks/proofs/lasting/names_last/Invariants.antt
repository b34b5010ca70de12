use Rattle.std.proofs.Common.{◌≡◌, true, All, take}
use Rattle.dns_data.specs.Name.{Labels}
use Rattle.net_model.specs.Zone.{exists_in}
use Rattle.part_checks.specs.Outside.{parent}
use Rattle.part_checks.proofs.lasting.names_last.Given as goal

-- the names above those so far exist
abbrev pub invariant-loop-name : goal.invariant-loop-name
invariant-loop-name l = All (λ (name : Labels). exists_in l.tree.zone (parent name) ≡ true) (take l.name-index l.outside)
