use Rattle.std.proofs.Common.{◌≡◌, ◌*◌, ◌<◌, ℕ, false, Some, length}
use Rattle.std.specs.Prelude.{slice_get}
use Rattle.graph_form.specs.FirstPath.{AreBarren, IsBarren, branch_shows}
use Rattle.graph_form.proofs.first_path.first_path.Given as goal

-- the starts so far and the nodes that were met are barren
abbrev pub invariant-loop-number : goal.invariant-loop-number
invariant-loop-number l = record {
  room : length l.met ≡ 2 * length l.graph.nodes;
  barren : AreBarren (branch_shows l.fault l.walks) l.graph l.rtype l.met;
  starts : (k at : ℕ) → k < l.number → slice_get l.graph.starts k ≡ Some at → IsBarren (branch_shows l.fault l.walks) l.graph l.rtype false at;
}
