use Rattle.std.proofs.Common.{◌≡◌, take, All}
use Rattle.label_graph.specs.Graphs.{IsLiveBelow}
use Rattle.label_graph.proofs.NextNames.{labels_of}
use Rattle.label_graph.proofs.next.next_names.Given as goal

-- the labels passed were put, with what is live there
abbrev pub invariant-loop-label : goal.invariant-loop-label
invariant-loop-label l = record {
  labels : labels_of l.names.items ≡ take l.label-index l.label-items;
  live : All (λ next. IsLiveBelow l.base l.reads l.places next.label next.live) l.names.items;
}
