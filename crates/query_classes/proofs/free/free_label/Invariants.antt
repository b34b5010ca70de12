use Rattle.std.proofs.Common.{◌≡◌, ℕ, List, [], ◌∷◌, ◌++◌, Less}
use Rattle.dns_data.specs.Label.{IsLabel}
use Rattle.dns_data.specs.Name.{Labels}
use Rattle.net_model.specs.Class.{trial_cmp}
use Rattle.net_model.specs.Reading.{IsNamed}
use Rattle.label_graph.specs.LiveSet.{IsLiveSet}
use Rattle.query_classes.proofs.FreeLabels.{left}
use Rattle.query_classes.proofs.free.free_label.Given as goal

-- all labels that are tried before make named names
abbrev pub invariant-loop-alloc : goal.invariant-loop-alloc
invariant-loop-alloc l = record {
  is : IsLabel l.label;
  before : (name : Labels) → IsLiveSet l.graph name l.live → (other : List ℕ) → IsLabel other → trial_cmp other l.label ≡ Less
      → IsNamed l.graph (name ++ other ∷ []);
}

abbrev pub decreases-loop-alloc : goal.decreases-loop-alloc
decreases-loop-alloc l = left l.graph.names l.label
