use Rattle.std.proofs.Common.{◌≡◌, [], ◌∷◌, take}
use Rattle.std.specs.Prelude.{Contains}
use Rattle.net_model.specs.declared.walk.Walk.{Walk}
use Rattle.report_json.specs.Plain.{IsWritten}
use Rattle.report_json.specs.Walks.{walk_value}
use Rattle.serde_json.specs.Data.{Data}
use Rattle.report_check.specs.Entries.{IsShownBy}
use Rattle.report_check.proofs.right_entry.by_other.Given as goal

-- none of the walks so far has the value and shows with the first that answers differ
abbrev pub invariant-loop-walk : goal.invariant-loop-walk
invariant-loop-walk l = record {
  kept : l.checker ≡ l.fn.checker;
  none : (others value : Data) → IsWritten others l.steps → IsWritten value l.text → (walk : Walk) → Contains (take l.walk-index l.walks) walk
      → (others ≡ walk_value walk) × IsShownBy l.fn.checker l.asked.query l.asked.rtype (l.one ∷ walk ∷ []) value → ⊥;
}
