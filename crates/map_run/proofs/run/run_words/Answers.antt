use Rattle.std.proofs.Common.{Option, refl, ap, subst, sym, ◌∙◌}
use Rattle.run_endings.proofs.Written.{nothing_done}
use Rattle.run_endings.specs.Endings.{without_output}
use Rattle.run_endings.specs.Runs.{files_of}
use Rattle.run_endings.specs.declared.status.Status.TheVariants.{Usage}
use Rattle.map_run.proofs.Endings.{without_job}
use Rattle.map_run.specs.Runs.{JobEnds}
use Rattle.map_run.specs.declared.words.MapJob.{MapJob}
use Rattle.map_run.proofs.run.run_words.Goals as goal

pub returns-in-Ok-Some : goal.returns-in-Ok-Some
returns-in-Ok-Some g c =
    let files = files_of g.F.Files.told g.F.Files.faults c.args.files.now c.of_job.new.files in
    record {
      run = subst (λ (job : Option MapJob). JobEnds job files c.of_job.result) (sym c.in-Ok-Some.field-0-is ∙ c.in-Ok-Some.ensures) c.of_job.ensures;
    }

pub returns-in-Ok-None : goal.returns-in-Ok-None
returns-in-Ok-None g c =
    let files = files_of g.F.Files.told g.F.Files.faults c.args.files.now c.args.files.now in
    record {
      run =
          subst (λ (job : Option MapJob). JobEnds job files c.usage.result) (sym c.in-Ok-None.field-0-is ∙ c.in-Ok-None.ensures)
          (without_job files c.usage.result refl (c.usage.ensures ∙ ap (without_output Usage) c.usage_line.ensures));
    }

pub returns-in-Err : goal.returns-in-Err
returns-in-Err g c = record { run = nothing_done _ _ _ c.no_memory.result refl c.no_memory.ensures }
