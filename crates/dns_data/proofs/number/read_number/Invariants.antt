use Rattle.std.proofs.Common.{◌≡◌, ◌≤◌, drop}
use Rattle.dns_data.proofs.Digits.{number_from}
use Rattle.dns_data.proofs.number.read_number.Given as goal

-- the value so far and the digits that are left make the number
abbrev pub invariant-loop-octet : goal.invariant-loop-octet
invariant-loop-octet l = record {
  whole : number_from l.most l.value (drop l.octet-index l.text) ≡ number_from l.most 0 l.text;
  bound : l.value ≤ l.most;
}
