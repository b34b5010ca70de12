use Rattle.std.proofs.Common.{◌≡◌, [], ◌∷◌, take}
use Rattle.std.specs.Prelude.{Contains}
use Rattle.net_model.specs.declared.walk.Walk.{Walk}
use Rattle.report_json.specs.Plain.{IsWritten}
use Rattle.report_json.specs.Walks.{walk_value}
use Rattle.serde_json.specs.Data.{Data}
use Rattle.serde_json.specs.View.{view}
use Rattle.report_check.specs.Entries.{IsShownBy}
use Rattle.report_check.proofs.right_entry.by_one.Given as goal

-- none of the walks so far has the value and shows the fault
abbrev pub invariant-loop-walk : goal.invariant-loop-walk
invariant-loop-walk l = record {
  kept : l.checker ≡ l.fn.checker;
  none : (value : Data) → IsWritten value l.text → (walk : Walk) → Contains (take l.walk-index l.walk-items) walk
      → (view l.fn.steps ≡ walk_value walk) × IsShownBy l.fn.checker l.asked.query l.asked.rtype (walk ∷ []) value → ⊥;
}
