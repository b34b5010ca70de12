use Rattle.std.proofs.Common.{List, Result, Err, ap, inl, inr}
use Rattle.query_classes.specs.declared.fault.TreeFault.{TreeFault}
use Rattle.query_classes.specs.declared.tree.ClassRow.{ClassRow}
use Rattle.groot_run.proofs.classes.rows_at.Goals as goal

pub returns-in-Err-TooMany-clause-err : goal.returns-in-Err-TooMany-clause-err
returns-in-Err-TooMany-clause-err c =
    let more = c.in-Err-TooMany.ensures.too_many (ap {B = Result (List ClassRow) TreeFault} (λ (fault : TreeFault). Err fault) c.in-Err-TooMany.field-0-is) in
    elim c.too_many_names.ensures [
      | inl ends ↦ inl (more, ends)
      | inr ran_out ↦ inr ran_out
    ]
