use Rattle.query_classes.proofs.TrialSteps.{a_is_label}
use Rattle.query_classes.proofs.free.first_label.Goals as goal

pub with_octets-requires : goal.with_octets-requires
with_octets-requires c = a_is_label
