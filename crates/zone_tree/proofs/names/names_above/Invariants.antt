use Rattle.std.proofs.Common.{◌≡◌, ◌∷◌, ◌++◌, map, drop}
use Rattle.zone_tree.specs.Names.{tree_after}
use Rattle.zone_tree.specs.Runs.{owner_of}
use Rattle.zone_tree.proofs.names.names_above.Given as goal

-- the names so far, and then what the owners of the other runs add
abbrev pub invariant-loop-run : goal.invariant-loop-run
invariant-loop-run l =
    l.names.items ++ tree_after l.before (map owner_of (drop l.run-index l.runs)) ≡ l.origin ∷ tree_after l.origin (map owner_of l.runs)
