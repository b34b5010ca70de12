use Rattle.std.proofs.Common.{◌≡◌, Some, subst, sym}
use Rattle.run_endings.specs.Runs.{FilesOfRun, files_of}
use Rattle.parts_run.specs.Runs.{JobEnds}
use Rattle.parts_run.specs.declared.words.PartsJob.TheVariants.{Merge}
use Rattle.parts_run.proofs.Endings.{over_reports, over_unread}
use Rattle.parts_run.proofs.run.of_reports.Goals as goal

pub returns-in-Ok : goal.returns-in-Ok
returns-in-Ok g c =
    let F = g.F.Files in
    let same : files_of F.told F.faults c.args.files.now c.let_go_of_all.new.self ≡ files_of F.told F.faults c.args.files.now c.read_reports.new.files = λ i. record {
      told_before = F.told c.args.files.now;
      told_after = c.let_go_of_all.ensures.told i;
      failed_before = F.faults c.args.files.now;
      failed_after = c.let_go_of_all.ensures.faults i;
    } in
    subst (λ (files : FilesOfRun). JobEnds (Some (Merge c.args.names.now)) files c.merged_ending.result) (sym same)
    (over_reports c.args.names.now _ c.merged_ending.result c.read_reports.ensures.source c.in-Ok.parts c.in-Ok.ensures.answers c.merged_ending.ensures)

pub returns-in-Err : goal.returns-in-Err
returns-in-Err g c =
    over_unread c.args.names.now _ c.not_read.result c.read_reports.ensures.source c.in-Err.fault c.in-Err.ensures.answers c.in-Err.ensures.cause c.not_read.ensures
