use Rattle.std.proofs.Common.{◌≡◌, map, take}
use Rattle.dns_data.specs.Octet.{folded}
use Rattle.rdata_forms.proofs.texts.read_tag.Given as goal

abbrev pub invariant-loop-octet : goal.invariant-loop-octet
invariant-loop-octet l = l.tag ≡ map folded (take l.octet-index l.text)
