use Rattle.std.proofs.Common.{◌≡◌, ◌≤◌, ◌&&◌, length, drop, find}
use Rattle.dns_data.specs.Name.{Labels}
use Rattle.net_model.specs.Prefix.{prefixes}
use Rattle.part_names.specs.PartNames.{is_own}
use Rattle.part_checks.specs.Outside.{is_outside}
use Rattle.part_checks.proofs.sets.NameSets.own_outside.Given as goal

-- no shorter prefix passes
abbrev pub invariant-loop-count : goal.invariant-loop-count
invariant-loop-count l = record {
  behind : length l.front ≤ l.count;
  passed : find (λ (above : Labels). is_outside l.self above && is_own l.self above) (prefixes l.name) ≡ find (λ (above : Labels). is_outside l.self above && is_own l.self above) (drop l.count (prefixes l.name));
}
