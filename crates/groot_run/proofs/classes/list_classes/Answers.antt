use Rattle.std.proofs.Common.{inl, inr}
use Rattle.groot_run.specs.ClassRows.{rows_text}
use Rattle.groot_run.specs.Outcome.{IsClassList}
use Rattle.groot_run.proofs.ClassLists.{lists_classes}
use Rattle.groot_run.proofs.Endings.{without_rows}
use Rattle.groot_run.proofs.classes.list_classes.Goals as goal

pub returns-in-Ok : goal.returns-in-Ok
returns-in-Ok c =
    elim (c.written.ensures (rows_text c.items.result.now) c.text_of.ensures) [
      | inl lists ↦ inl (lists_classes c.args.config.now c.args.limit c.items.result.now c.in-Ok.rows c.written.result c.items.ensures c.in-Ok.ensures.listed c.in-Ok.ensures.few lists)
      | inr ran_out ↦ inr ran_out
    ]

pub returns-in-Err : goal.returns-in-Err
returns-in-Err c = without_rows c.args.config.now c.args.limit (IsClassList c.args.config.now c.in-Err.ending) c.in-Err.ending c.in-Err.ensures.err
