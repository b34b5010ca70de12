use Rattle.std.proofs.Common.{Result, Ok, Err, ap, subst, sym}
use Rattle.graph_form.specs.Report.{Subject}
use Rattle.label_graph.specs.Pairs.{AreSame}
use Rattle.query_verdicts.specs.declared.kept.KeptReport.{KeptReport}
use Rattle.report_run.specs.Judged.{IsJudged}
use Rattle.run_endings.specs.declared.ending.Ending.{Ending}
use Rattle.part_run.specs.KeptEntry.{kept_entry}
use Rattle.part_run.specs.declared.entry.KeptEntry.{KeptEntry}
use Rattle.part_run.proofs.PartReported.{with_part, without_part}
use Rattle.part_run.proofs.judged.of_judge.Goals as goal

pub counted-requires-clause-whole : goal.counted-requires-clause-whole
counted-requires-clause-whole g c lifetimes outlives = ap (λ (subject : Subject). subject.below) (sym c.requires.name.0)

pub returns-in-Ok : goal.returns-in-Ok
returns-in-Ok g c = λ whole is.
    let limits = c.args.limits in
    let graph = c.base_names.result.now in
    let judged : Result (KeptReport KeptEntry) Ending = Ok c.in-Ok.told in
    with_part whole c.args.names.now c.args.left.now is limits.rewrites graph (subst (λ (subject : Subject). AreSame graph subject.ground) (sym c.requires.name.0) c.base_names.ensures)
    limits.classes c.in-Ok.told (subst (λ (subject : Subject). IsJudged limits.classes subject kept_entry judged) (sym c.requires.name.0) c.in-Ok.ensures)
    c.ended.result c.ended.ensures

pub returns-in-Err : goal.returns-in-Err
returns-in-Err g c = λ whole is.
    let limits = c.args.limits in
    let judged : Result (KeptReport KeptEntry) Ending = Err c.in-Err.ending in
    without_part whole c.args.names.now c.args.left.now is limits.rewrites limits.classes c.in-Err.ending
    (subst (λ (subject : Subject). IsJudged limits.classes subject kept_entry judged) (sym c.requires.name.0) c.in-Err.ensures)
