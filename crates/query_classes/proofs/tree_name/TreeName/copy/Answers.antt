use Rattle.query_classes.proofs.tree_name.TreeName.copy.Goals as goal

pub of-requires : goal.of-requires
of-requires g c = rw (c.in_ok-name.ensures, c.in_ok-live.ensures) c.self.invariant
