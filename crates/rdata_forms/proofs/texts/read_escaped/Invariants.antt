use Rattle.std.proofs.Common.{◌≡◌, ◌≤◌, ◌++◌, length}
use Rattle.rdata_forms.specs.Texts.{resolved}
use Rattle.rdata_forms.proofs.texts.read_escaped.Given as goal

-- the octets so far and those that are left are the string's
abbrev pub invariant-loop-octet : goal.invariant-loop-octet
invariant-loop-octet l = record {
  whole : l.octets ++ resolved l.rest ≡ resolved l.text;
  bound : length l.octets ≤ l.most;
}

abbrev pub decreases-loop-octet : goal.decreases-loop-octet
decreases-loop-octet l = length l.rest
