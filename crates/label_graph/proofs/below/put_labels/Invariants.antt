use Rattle.std.proofs.Common.{◌≡◌, ℕ, List, ◌++◌, length}
use Rattle.label_graph.proofs.Children.{AreLasts}
use Rattle.label_graph.proofs.below.put_labels.Given as goal

-- the last labels of those passed were put
abbrev pub invariant-loop-other : goal.invariant-loop-other
invariant-loop-other l =
    (more : List (List ℕ)) × (l.labels.items ≡ l.initial.labels.items ++ more) × (length more ≡ l.other-index)
    × AreLasts l.base l.place l.other-items more l.other-index
