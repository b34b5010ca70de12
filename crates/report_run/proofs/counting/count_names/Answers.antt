use Rattle.std.proofs.Common.{Result, Err, ap, inl, inr}
use Rattle.query_classes.specs.declared.fault.TreeFault.{TreeFault}
use Rattle.report_run.proofs.counting.count_names.Goals as goal

pub returns-in-Err-TooMany : goal.returns-in-Err-TooMany
returns-in-Err-TooMany c =
    let more = c.in-Err-TooMany.ensures (ap {B = Result (Unit {0}) TreeFault} (λ (fault : TreeFault). Err fault) c.in-Err-TooMany.field-0-is) in
    elim c.too_many_names.ensures [
      | inl ends ↦ inl (more, ends)
      | inr ran_out ↦ inr ran_out
    ]
