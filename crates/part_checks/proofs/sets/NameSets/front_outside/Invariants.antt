use Rattle.std.proofs.Common.{◌≡◌, drop, find}
use Rattle.net_model.specs.Prefix.{prefixes}
use Rattle.part_checks.specs.Outside.{is_outside}
use Rattle.part_checks.proofs.sets.NameSets.front_outside.Given as goal

-- no shorter prefix passes
abbrev pub invariant-loop-count : goal.invariant-loop-count
invariant-loop-count l = find (is_outside l.self) (prefixes l.name) ≡ find (is_outside l.self) (drop l.count (prefixes l.name))
