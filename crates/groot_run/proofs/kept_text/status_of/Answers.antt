use Rattle.std.proofs.Common.{◌∙◌}
use Rattle.groot_run.proofs.kept_text.status_of.Goals as goal

pub returns : goal.returns
returns g c = λ entries same. c.status_when.ensures ∙ c.has_entries.ensures entries same
