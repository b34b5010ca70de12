use Rattle.std.proofs.Common.{◌≡◌, ◌+◌, ◌<◌, ◌≤◌, [], true, length}
use Rattle.std.specs.List.{list_all}
use Rattle.dns_data.specs.Label.{is_label_octet}
use Rattle.dns_data.specs.Spelling.{signs, spelled}
use Rattle.dns_data.proofs.spelling.first_label.Given as goal

abbrev pub invariant-loop-rest : goal.invariant-loop-rest
invariant-loop-rest l = record {
  same : spelled l.label.items (signs l.rest) ≡ spelled [] (signs l.text);
  good : list_all is_label_octet l.label.items ≡ true;
  short : length l.label.items ≤ 63;
  some : 0 < length l.label.items + length l.rest;
  within : length l.rest ≤ length l.text;
}

abbrev pub decreases-loop-rest : goal.decreases-loop-rest
decreases-loop-rest l = length l.rest
