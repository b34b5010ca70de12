use Rattle.std.proofs.Common.{◌∙◌, ap, inl, inr}
use Rattle.report_json.specs.Report.{report_text}
use Rattle.run_endings.specs.declared.status.Status.{Status}
use Rattle.run_endings.specs.Endings.{with_output}
use Rattle.groot_run.specs.KeptText.{kept_text}
use Rattle.groot_run.proofs.KeptPieces.{as_many, of_report}
use Rattle.groot_run.proofs.check.written.Goals as goal

pub returns : goal.returns
returns c = λ report keeps.
    let kept = c.args.report in
    let text = report_text report in
    elim (c.in_pieces.ensures text (of_report c.pieces_of.result kept report_text report keeps c.pieces_of.ensures)) [
      | inl is ↦ inl (is ∙ ap (λ (how : Status). with_output how text)
          (c.status_of-status.ensures report.entries (as_many kept_text kept.kept c.items.result.now report.entries c.items.ensures keeps.entries)))
      | inr ran_out ↦ inr ran_out
    ]
