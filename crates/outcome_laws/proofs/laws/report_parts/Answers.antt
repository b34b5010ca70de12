use Rattle.outcome_laws.proofs.ThreeParts.{reported_in_parts}
use Rattle.outcome_laws.proofs.laws.report_parts.Goals as goal

pub returns : goal.returns
returns c = λ config rewrites ending. reported_in_parts config rewrites ending
