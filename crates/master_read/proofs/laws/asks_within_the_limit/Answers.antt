-- Each file that is asked for is one more.
use Rattle.master_read.proofs.Counts.{texts_ask}
use Rattle.master_read.proofs.laws.asks_within_the_limit.Goals as goal

pub returns : goal.returns
returns c = texts_ask
