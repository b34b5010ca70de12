use Rattle.std.proofs.Common.{◌≡◌, [], ◌∷◌, length, All}
use Rattle.label_graph.specs.Graphs.{IsLiveBelow}
use Rattle.label_graph.proofs.Children.{AreLasts}
use Rattle.label_graph.proofs.NextNames.{labels_of}
use Rattle.label_graph.proofs.next.next_of_one.Given as goal

-- the last labels of those passed were put, with what is live there
abbrev pub invariant-loop-other : goal.invariant-loop-other
invariant-loop-other l = record {
  count : length l.names.items ≡ l.other-index;
  each : AreLasts l.base l.place l.other-items (labels_of l.names.items) l.other-index;
  live : All (λ next. IsLiveBelow l.base l.reads (l.place ∷ []) next.label next.live) l.names.items;
}
