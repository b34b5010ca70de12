use Rattle.query_classes.proofs.TrialSteps.{a_is_label}
use Rattle.query_verdicts.proofs.alike_rows.row_below.Goals as goal

pub with_octets-requires : goal.with_octets-requires
with_octets-requires c = a_is_label
