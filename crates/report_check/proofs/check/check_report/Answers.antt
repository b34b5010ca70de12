use Rattle.std.proofs.Common.{sym, ap, ◌∙◌}
use Rattle.std.specs.Prelude.{option_and_then}
use Rattle.std.proofs.lemmas.Bool.{false≢true}
use Rattle.serde_json.specs.View.{view}
use Rattle.meta_read.proofs.Values.{value_of-read, value_of-unread}
use Rattle.report_check.specs.ReportIn.{report_of}
use Rattle.report_check.proofs.check.check_report.Goals as goal

pub returns-in-Ok : goal.returns-in-Ok
returns-in-Ok c =
    c.check_value.ensures c.args.bytes.now
    (value_of-read c.args.bytes.now (view c.in-Ok.value) c.in-Ok.ensures.ok.0 c.in-Ok.ensures.ok.1)

pub returns-else-is_memory : goal.returns-else-is_memory
returns-else-is_memory c =
    ap (option_and_then report_of)
    (value_of-unread c.args.bytes.now (c.in-Err.ensures.err (λ memory. absurd (false≢true (sym c.if-is_memory.false ∙ c.is_memory.ensures.1 memory)))))
