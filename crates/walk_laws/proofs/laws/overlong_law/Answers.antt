use Rattle.walk_laws.proofs.WalksAlike.QueryWalks.{overlong_too}
use Rattle.walk_laws.proofs.laws.overlong_law.Goals as goal

pub returns : goal.returns
returns c = λ setting above own other tails rtype walk is long. overlong_too setting above own other tails rtype walk is long
