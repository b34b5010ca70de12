use Rattle.std.proofs.Common.{sym, subst}
use Rattle.net_model.specs.Configured.{AreConsistent}
use Rattle.part_checks.specs.Parts.{held_by}
use Rattle.part_checks.proofs.ConsistentParts.{left_consistent}
use Rattle.part_checks.proofs.part.left_of.Goals as goal

pub invariant_of-result : goal.invariant_of-result
invariant_of-result c =
    subst AreConsistent (sym c.in_ok-servers.ensures) (left_consistent (held_by c.args.sets.now) c.taken.inside.servers c.taken.invariant)
