use Rattle.std.proofs.Common.{ap, inl, inr, ◌∙◌}
use Rattle.run_endings.proofs.Written.{of_written, whole}
use Rattle.run_endings.specs.declared.ending.Ending.{Ending}
use Rattle.groot_run.proofs.run.run_program.Goals as goal

pub returns-clause-headline : goal.returns-clause-headline
returns-clause-headline g c = λ classes rewrites config reads quiet.
    let wrote = whole c.run_words-ending.result _ _ c.write_ending.result c.write_ending.ensures quiet in (
      c.query_classes.ensures config rewrites,
      elim (c.run_words-ending.ensures.headline classes rewrites config reads) [
        | inl checks ↦ inl (c.run_words-ending.result, checks, wrote.0, wrote.1)
        | inr ran_out ↦ inr (wrote.0 ∙ ap (λ (ending : Ending). ending.status) ran_out)
      ],
    )

pub returns-clause-run : goal.returns-clause-run
returns-clause-run g c = of_written _ _ _ _ _ c.run_words-ending.result c.run_words-ending.ensures.run c.write_ending.result c.write_ending.ensures
