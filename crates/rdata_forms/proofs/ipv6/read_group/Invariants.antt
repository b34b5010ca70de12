use Rattle.std.proofs.Common.{◌≡◌, ◌<◌, ◌^◌, drop}
use Rattle.rdata_forms.proofs.Hexadecimal.{hex_from}
use Rattle.rdata_forms.proofs.ipv6.read_group.Given as goal

-- the value so far and the digits that are left make the value
abbrev pub invariant-loop-octet : goal.invariant-loop-octet
invariant-loop-octet l = record {
  whole : hex_from l.value (drop l.octet-index l.text) ≡ hex_from 0 l.text;
  bound : l.value < 16 ^ l.octet-index;
}
