use Rattle.std.proofs.Common.{◌≡◌, Some, subst, sym}
use Rattle.run_endings.specs.Runs.{FilesOfRun, files_of}
use Rattle.map_run.specs.Runs.{JobEnds}
use Rattle.map_run.proofs.Endings.{over_loaded, over_none}
use Rattle.map_run.proofs.run.of_job.Goals as goal

pub returns-in-Ok : goal.returns-in-Ok
returns-in-Ok g c =
    let F = g.F.Files in
    let same : files_of F.told F.faults c.args.files.now c.let_go_of_all.new.self ≡ files_of F.told F.faults c.args.files.now c.load_with_files.new.files = λ i. record {
      told_before = F.told c.args.files.now;
      told_after = c.let_go_of_all.ensures.told i;
      failed_before = F.faults c.args.files.now;
      failed_after = c.let_go_of_all.ensures.faults i;
    } in
    subst (λ (files : FilesOfRun). JobEnds (Some c.args.job.now) files c.ending_of.result) (sym same)
    (over_loaded c.largest.result c.largest.ensures c.as_str-meta.result.now c.args.job.now.meta c.as_str-meta.ensures c.args.job.now.asked _ c.ending_of.result
    c.load_with_files.ensures.from_the_start c.load_with_files.ensures.opens c.in-Ok.all c.in-Ok.ensures.gives c.ending_of.ensures)

pub returns-in-Err : goal.returns-in-Err
returns-in-Err g c =
    over_none c.largest.result c.largest.ensures c.as_str-meta.result.now c.args.job.now.meta c.as_str-meta.ensures c.args.job.now.asked _ c.not_loaded.result
    c.load_with_files.ensures.from_the_start c.load_with_files.ensures.opens c.in-Err.fault c.in-Err.ensures.gives c.in-Err.ensures.order c.in-Err.ensures.cause
    c.not_loaded.ensures
