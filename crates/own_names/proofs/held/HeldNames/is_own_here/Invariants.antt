use Rattle.dns_data.specs.Name.{is_among}
use Rattle.part_laws.specs.Part.{with_prefixes}
use Rattle.own_names.proofs.LongestHeld.{HavePassed}
use Rattle.own_names.proofs.held.HeldNames.is_own_here.Given as goal

-- the fronts that were looked at aren't held
abbrev pub invariant-loop-passed : goal.invariant-loop-passed
invariant-loop-passed l = HavePassed (is_among (with_prefixes l.self.held)) l.name l.passed
