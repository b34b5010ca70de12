use Rattle.std.proofs.Common.{◌≡◌, ◌++◌, take}
use Rattle.std.specs.List.{flat_map}
use Rattle.std.specs.String.{string_bytes}
use Rattle.dns_data.specs.Spelling.{octet_text}
use Rattle.dns_data.proofs.to_text.push_octets.Given as goal

abbrev pub invariant-loop-octet : goal.invariant-loop-octet
invariant-loop-octet l =
    string_bytes l.text ≡ string_bytes l.initial.text ++ flat_map octet_text (take l.octet-index l.label)
