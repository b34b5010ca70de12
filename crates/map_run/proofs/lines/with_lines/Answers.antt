use Rattle.std.proofs.Common.{◌≡◌, subst}
use Rattle.std.specs.Prelude.{◌⊎◌}
use Rattle.run_endings.specs.Endings.{no_memory, with_output}
use Rattle.run_endings.specs.declared.status.Status.{Status}
use Rattle.map_run.specs.Lines.{lines_text}
use Rattle.map_run.proofs.lines.with_lines.Goals as goal

pub returns : goal.returns
returns c =
    subst (λ (status : Status). (c.written.result ≡ with_output status (lines_text c.args.lines.now)) ⊎ (c.written.result ≡ no_memory)) c.status_of.ensures
    (c.written.ensures (lines_text c.args.lines.now) c.text_of.ensures)
