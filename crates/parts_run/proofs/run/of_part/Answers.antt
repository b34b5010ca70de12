use Rattle.std.proofs.Common.{List, ℕ, Some, subst}
use Rattle.run_endings.specs.Runs.{files_of}
use Rattle.parts_run.specs.Runs.{JobEnds}
use Rattle.parts_run.specs.declared.words.PartsJob.TheVariants.{Part}
use Rattle.parts_run.proofs.PartEnds.{part_ended}
use Rattle.parts_run.proofs.run.of_part.Goals as goal

pub returns : goal.returns
returns g c =
    let limits = c.args.limits in
    let files = files_of g.F.Files.told g.F.Files.faults c.args.files.now c.part.new.files in
    subst (λ (meta : List ℕ). JobEnds (Some (Part meta c.args.names.now limits)) files c.part.result) c.as_str.ensures
    (subst (λ (names : List ℕ). JobEnds (Some (Part c.as_str.result.now names limits)) files c.part.result) c.as_str-2.ensures
    (part_ended limits c.as_str.result.now c.as_str-2.result.now files c.part.result c.part.ensures.cause c.part.ensures.from_the_start c.part.ensures.opens))
