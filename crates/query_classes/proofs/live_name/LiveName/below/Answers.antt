use Rattle.query_classes.proofs.ClassLaws.{below_made, empty_full}
use Rattle.query_classes.proofs.live_name.LiveName.below.Goals as goal

pub returns-in-None : goal.returns-in-None
returns-in-None c =
    let full = rw c.in-None.is at (c.in_ok-label.ensures c.args.self.now.name c.requires.live) in
    empty_full c.args.graph.now c.graph_is_closed.ensures c.args.self.now.name full

pub returns-in-Some : goal.returns-in-Some
returns-in-Some c =
    let first = rw c.in-Some.is at (c.in_ok-label.ensures c.args.self.now.name c.requires.live) in
    below_made c.args.graph.now c.graph_is_closed.ensures c.args.self.now.name c.in-Some.label c.requires.named first
    c.name_below.result c.name_below.ensures.name c.name_below.ensures.is_name
