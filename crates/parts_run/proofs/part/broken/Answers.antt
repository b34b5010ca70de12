use Rattle.std.proofs.Common.{◌∙◌, List, ℕ, ap, inl, inr}
use Rattle.std.specs.Prelude.{decimal}
use Rattle.config_load.specs.Refusal.{fields_line}
use Rattle.run_endings.specs.Endings.{without_output}
use Rattle.run_endings.specs.declared.status.Status.TheVariants.{Refused}
use Rattle.parts_run.proofs.part.broken.Goals as goal

pub returns-in-Ok : goal.returns-in-Ok
returns-in-Ok c =
    elim c.refused.ensures [
      | inl is ↦ inl (is ∙ ap (λ (code : List ℕ). without_output Refused (fields_line c.args.file.now (decimal 0) code)) (c.as_str.ensures ∙ c.in-Ok.ensures))
      | inr ran_out ↦ inr ran_out
    ]
