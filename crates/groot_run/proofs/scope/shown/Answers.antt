use Rattle.groot_run.specs.KeptText.{kept_text}
use Rattle.groot_run.proofs.JudgedScopes.{as_written, is_scoped, ran_out_among}
use Rattle.groot_run.proofs.KeptPieces.{as_many}
use Rattle.groot_run.proofs.scope.shown.Goals as goal

pub returns-in-Ok-text_of : goal.returns-in-Ok-text_of
returns-in-Ok-text_of g c =
    let N = g.N.Naming in
    let told = c.args.report in
    let kept = c.requires.report in
    is_scoped N.subject N.states c.requires.name.1 c.queries.result.now c.queries.ensures c.args.rows.now
    c.requires.listed c.requires.none_passes _ _ c.in-Ok.ensures.ok
    kept.report kept.is_report _
    (as_written kept.report N.subject.below c.args.scope.now _ _ _
    (c.has_entries-faulty.ensures kept.report.entries (as_many kept_text told.kept c.items.result.now kept.report.entries c.items.ensures kept.keeps.entries)) c.requires.name.0
    (c.in-Ok-text_of.ensures kept.report kept.keeps))

pub returns-in-Err : goal.returns-in-Err
returns-in-Err g c =
    let N = g.N.Naming in
    ran_out_among N.subject N.states c.requires.name.1 c.queries.result.now c.queries.ensures c.args.rows.now
    c.requires.listed c.requires.none_passes c.in-Err.ending c.in-Err.ensures.err
