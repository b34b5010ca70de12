use Rattle.std.proofs.Common.{◌≡◌, take}
use Rattle.std.specs.List.{flat_map}
use Rattle.dns_data.specs.Spelling.{octet_text}
use Rattle.dns_data.proofs.to_text.stand_for_themselves.Given as goal

abbrev pub invariant-loop-octet : goal.invariant-loop-octet
invariant-loop-octet l = flat_map octet_text (take l.octet-index l.label) ≡ take l.octet-index l.label
