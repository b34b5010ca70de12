use Rattle.std.proofs.Common.{◌≡◌, [], ◌∷◌}
use Rattle.std.specs.Prelude.{Contains}
use Rattle.net_model.specs.Shown.{WalksShow, with_sets}
use Rattle.net_model.specs.declared.fault.Fault.{Fault}
use Rattle.report_json.specs.Plain.{IsWritten}
use Rattle.serde_json.specs.Data.{Data}
use Rattle.report_check.specs.Entries.{IsShownBy}
use Rattle.report_check.proofs.right_entry.is_one_of.Given as goal

-- the walk shows the faults that are left; and if the text is that of an entry with the walk, the fault is one of them
abbrev pub invariant-loop-fault : goal.invariant-loop-fault
invariant-loop-fault l = record {
  kept : l.checker ≡ l.fn.checker;
  shown : (fault : Fault) → Contains l.fault-iterator fault → WalksShow (with_sets l.fn.checker) (l.walk ∷ []) fault;
  left : (value : Data) → IsWritten value l.text → (by : IsShownBy l.fn.checker l.asked.query l.asked.rtype (l.walk ∷ []) value) → Contains l.fault-iterator by.fault;
}
