-- So far the text has the texts of the first octets at its end.
use Rattle.std.proofs.Common.{◌≡◌, ◌++◌, take}
use Rattle.std.specs.String.{string_bytes}
use Rattle.dns_data.specs.DataText.{plain}
use Rattle.dns_data.proofs.printing.push_plain.Given as goal

abbrev pub invariant-loop-octet : goal.invariant-loop-octet
invariant-loop-octet l = string_bytes l.text ≡ string_bytes l.fn.text ++ plain (take l.octet-index l.octets)
