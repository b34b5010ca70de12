use Rattle.dns_data.proofs.Spellings.{above_flat}
use Rattle.dns_data.proofs.spelling.labels_above.Goals as goal

pub returns-else-absolute-clause-flat : goal.returns-else-absolute-clause-flat
returns-else-absolute-clause-flat c = rw c.encoding.ensures.same (above_flat _ c.encoding.ensures.name).0

pub returns-else-absolute-clause-labels : goal.returns-else-absolute-clause-labels
returns-else-absolute-clause-labels c = rw (c.encoding.ensures.same, c.if-absolute.false) (above_flat _ c.encoding.ensures.name).1
