use Rattle.std.proofs.Common.{sym, true≢false}
use Rattle.query_classes.proofs.LiveInEach.{live_in_each}
use Rattle.query_classes.proofs.tree_name.TreeName.of_name.Goals as goal

pub of-requires-2 : goal.of-requires-2
of-requires-2 g c =
    record {
      live = live_in_each g.G.OnGround.ground c.args.graph.now c.requires c.in_ok-found.found.name c.in_ok-found.found.live c.in_ok-found.ensures.live;
      below = λ said. absurd (true≢false (sym said));
    }
