use Rattle.plain_words.proofs.TriedOctets.{tried_by_rank}
use Rattle.plain_words.proofs.laws.octets_tried.Goals as goal

pub returns : goal.returns
returns c = tried_by_rank
