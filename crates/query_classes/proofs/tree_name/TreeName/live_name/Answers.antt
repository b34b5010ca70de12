use Rattle.query_classes.proofs.tree_name.TreeName.live_name.Goals as goal

pub returns-clause-live : goal.returns-clause-live
returns-clause-live g c = c.self.invariant.live
