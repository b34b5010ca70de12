use Rattle.std.proofs.Common.{refl}
use Rattle.query_verdicts.proofs.report.put_walked.Goals as goal

pub returns-clause-put : goal.returns-clause-put
returns-clause-put g c = (g.K.Kept.kept_of c.in_ok-entry.entry, (c.in_ok-entry.entry, c.in_ok-entry.ensures, refl), c.in_ok-put_entry.ensures)
