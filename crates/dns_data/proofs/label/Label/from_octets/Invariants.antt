use Rattle.std.proofs.Common.{◌≡◌, true, map, take}
use Rattle.std.specs.List.{list_all}
use Rattle.dns_data.specs.Octet.{folded}
use Rattle.dns_data.specs.Label.{is_label_octet}
use Rattle.dns_data.proofs.label.Label.from_octets.Given as goal

abbrev pub invariant-loop-octet : goal.invariant-loop-octet
invariant-loop-octet l =
    record { same : l.label ≡ map folded (take l.octet-index l.octets); good : list_all is_label_octet l.label ≡ true }
