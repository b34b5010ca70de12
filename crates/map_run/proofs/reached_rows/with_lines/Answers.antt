use Rattle.std.proofs.Common.{◌≡◌, subst}
use Rattle.std.specs.Prelude.{◌⊎◌}
use Rattle.run_endings.specs.Endings.{no_memory, with_output}
use Rattle.run_endings.specs.declared.status.Status.{Status}
use Rattle.map_run.specs.Reached.{reached_text}
use Rattle.map_run.proofs.reached_rows.with_lines.Goals as goal

pub returns : goal.returns
returns c =
    let text = reached_text 1 c.args.reached.now c.args.rows.now in
    subst (λ (status : Status). (c.written.result ≡ with_output status text) ⊎ (c.written.result ≡ no_memory)) c.status_of.ensures (c.written.ensures text c.text_of.ensures)
