use Rattle.std.proofs.lemmas.Result.{IfOk-weaker}
use Rattle.straight_walks.proofs.region.search_below.Goals as goal

pub returns-in-None : goal.returns-in-None
returns-in-None c = IfOk-weaker c.at_top.result _ _ (λ searched so. so c.args.sets.now) c.at_top.ensures.is
