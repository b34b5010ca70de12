use Rattle.std.proofs.Common.{◌≡◌, ◌∙◌, ℕ, length, ap, inl, inr}
use Rattle.std.specs.Prelude.{min}
use Rattle.graph_form.specs.declared.report.Report.{Report}
use Rattle.io_edges.specs.Counts.{last_count}
use Rattle.net_model.specs.declared.config.Config.{Config}
use Rattle.groot_run.specs.DrillLine.{drill_line, record_count}
use Rattle.run_endings.specs.declared.status.Status.{Status}
use Rattle.run_endings.specs.Endings.{with_output}
use Rattle.groot_run.specs.Outcome.{drilled, status_of}
use Rattle.groot_run.proofs.drill.drilled.Goals as goal

-- an ending with a report's status and a drill's line
with_line : (zones : ℕ) (config : Config) (report : Report) (how : Status) (records names faults : ℕ) → how ≡ status_of report.entries
    → records ≡ min (record_count config.servers) last_count → names ≡ report.names → faults ≡ length report.entries
    → with_output how (drill_line zones records names faults) ≡ drilled zones config report
with_line zones config report how records names faults same counted named many =
    ap (λ (s : Status). with_output s (drill_line zones records names faults)) same
    ∙ ap (λ (n : ℕ). with_output (status_of report.entries) (drill_line zones n names faults)) counted
    ∙ ap (λ (n : ℕ). with_output (status_of report.entries) (drill_line zones (min (record_count config.servers) last_count) n faults)) named
    ∙ ap (λ (n : ℕ). with_output (status_of report.entries) (drill_line zones (min (record_count config.servers) last_count) report.names n)) many

pub returns : goal.returns
returns c = λ report named many.
    elim (c.written.ensures (drill_line c.args.zones c.records.result c.args.report.now.names c.len-faults.result) c.line_of-line.ensures) [
      | inl is ↦ inl (is ∙ with_line c.args.zones c.args.config.now report c.status_of.result c.records.result c.args.report.now.names c.len-faults.result
          (c.status_of.ensures report.entries (ap length c.items.ensures ∙ many)) c.records.ensures named (c.len-faults.ensures ∙ many))
      | inr ran_out ↦ inr ran_out
    ]
