-- Both begin with the octets that were passed over.
use Rattle.std.proofs.Common.{◌≤◌, ◌-◌}
use Rattle.dns_data.proofs.CommonOctets.{common}
use Rattle.dns_data.proofs.common.common_of_few.Given as goal

abbrev pub invariant-loop-passed : goal.invariant-loop-passed
invariant-loop-passed l = l.passed ≤ common l.left l.right

abbrev pub decreases-loop-passed : goal.decreases-loop-passed
decreases-loop-passed l = l.both - l.passed
