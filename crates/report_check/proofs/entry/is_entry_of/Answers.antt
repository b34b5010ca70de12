use Rattle.std.proofs.Common.{◌≡◌, ◌↔◌, true, ap, ◌∙◌, subst}
use Rattle.std.proofs.lemmas.Result.{IfOk-weaker}
use Rattle.graph_form.specs.declared.report.ReportEntry.{ReportEntry}
use Rattle.report_json.specs.Report.{entry_value}
use Rattle.report_check.specs.Entries.{entry_with}
use Rattle.report_check.specs.declared.entry.EntryRest.{EntryRest}
use Rattle.report_check.proofs.entry.is_entry_of.Goals as goal

pub returns-in-Ok : goal.returns-in-Ok
returns-in-Ok c =
    let is = c.entry_of-entry.ensures
    ∙ ap (λ (parts : EntryRest). entry_with parts.query parts.rtype parts.repeats parts.walks c.args.fault) c.in-Ok.ensures in
    IfOk-weaker c.is_entry_text-same.result _ _
    (λ same told value written. subst (λ (entry : ReportEntry). (same ≡ true) ↔ (value ≡ entry_value entry)) is (told value written))
    c.is_entry_text-same.ensures
