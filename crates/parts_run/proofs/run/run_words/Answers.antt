use Rattle.std.proofs.Common.{Bor, Option, Some, List, ℕ, map, refl, ap, subst, sym, ◌∙◌}
use Rattle.run_endings.proofs.Written.{nothing_done}
use Rattle.run_endings.specs.Endings.{without_output}
use Rattle.run_endings.specs.Runs.{files_of}
use Rattle.run_endings.specs.declared.status.Status.TheVariants.{Usage}
use Rattle.parts_run.proofs.Endings.{without_job}
use Rattle.parts_run.proofs.PartLimits.{limits_asked}
use Rattle.parts_run.specs.Runs.{JobEnds}
use Rattle.parts_run.specs.declared.words.PartsJob.{PartsJob}
use Rattle.parts_run.specs.declared.words.PartsJob.TheVariants.{Merge}
use Rattle.parts_run.proofs.run.run_words.Goals as goal

pub of_part-requires : goal.of_part-requires
of_part-requires g c =
    let limits =
    limits_asked c.in-Ok-Some-Part.meta c.in-Ok-Some-Part.names c.in-Ok-Some-Part.limits (map (λ (word : Bor (List ℕ)). word.now) c.args.words.now)
    (sym c.in-Ok-Some-Part.ensures ∙ c.in-Ok-Some-Part.field-0-is ∙ ap (λ (job : PartsJob). Some job) c.in-Ok-Some-Part.field-0-0-is) in
    (c.type_bounds.sync-G, (c.type_bounds.sync-R, limits))

pub returns-in-Ok-Some-Merge : goal.returns-in-Ok-Some-Merge
returns-in-Ok-Some-Merge g c =
    let files = files_of g.F.Files.told g.F.Files.faults c.args.files.now c.of_reports.new.files in
    record {
      run =
          subst (λ (job : Option PartsJob). JobEnds job files c.of_reports.result)
          (ap (λ (names : List (List ℕ)). Some (Merge names)) c.items.ensures ∙ ap (λ (job : PartsJob). Some job) (sym c.in-Ok-Some-Merge.field-0-0-is) ∙ sym c.in-Ok-Some-Merge.field-0-is ∙ c.in-Ok-Some-Merge.ensures)
          c.of_reports.ensures;
    }

pub returns-in-Ok-Some-Part : goal.returns-in-Ok-Some-Part
returns-in-Ok-Some-Part g c =
    let files = files_of g.F.Files.told g.F.Files.faults c.args.files.now c.of_part.new.files in
    record {
      run =
          subst (λ (job : Option PartsJob). JobEnds job files c.of_part.result) (ap (λ (job : PartsJob). Some job) (sym c.in-Ok-Some-Part.field-0-0-is) ∙ sym c.in-Ok-Some-Part.field-0-is ∙ c.in-Ok-Some-Part.ensures)
          c.of_part.ensures;
    }

pub returns-in-Ok-None : goal.returns-in-Ok-None
returns-in-Ok-None g c =
    let files = files_of g.F.Files.told g.F.Files.faults c.args.files.now c.args.files.now in
    record {
      run =
          subst (λ (job : Option PartsJob). JobEnds job files c.usage.result) (sym c.in-Ok-None.field-0-is ∙ c.in-Ok-None.ensures)
          (without_job files c.usage.result refl (c.usage.ensures ∙ ap (without_output Usage) c.usage_line.ensures));
    }

pub returns-in-Err : goal.returns-in-Err
returns-in-Err g c = record { run = nothing_done _ _ _ c.no_memory.result refl c.no_memory.ensures }
