use Rattle.std.proofs.Common.{refl}
use Rattle.interp_graph.proofs.Gaining.{gain_some}
use Rattle.interp_graph.proofs.ItemsByNumber.{item_is}
use Rattle.interp_graph.proofs.reached.Reaching.gain.Goals as goal

pub returns-then-lacks : goal.returns-then-lacks
returns-then-lacks c =
    let some = c.lacks.ensures.some c.if-lacks.true in
    gain_some c.args.self.now _ c.args.at c.args.types c.index.result.now c.union.result
    (item_is c.args.self.now.sets.items c.args.at c.index.result.now some.2 c.index.ensures) refl refl c.union.ensures some.0 some.1 some.3
