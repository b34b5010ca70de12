use Rattle.std.proofs.Common.{◌∙◌}
use Rattle.arrayvec.proofs.IterLemmas.{rest_runs}
use Rattle.dns_data.proofs.list.ListIntoIterator.into_iter.Goals as goal

pub returns : goal.returns
returns g c = record { into_iter_gives = (c.new.ensures ∙ c.into_vec.ensures, rest_runs) }
