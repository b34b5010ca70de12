-- The rows have the classes of the scope, since the judge's graph has the ground of its subject.
use Rattle.std.proofs.Common.{subst}
use Rattle.std.proofs.lemmas.Result.{IfErr-weaker, IfOk-weaker}
use Rattle.dns_data.specs.Name.{Labels}
use Rattle.net_model.specs.Tree.{IsInPart}
use Rattle.query_classes.specs.ClassList.{AreListed, classes_of_rows}
use Rattle.query_classes.proofs.SameGrounds.{listed_same}
use Rattle.report_run.specs.Counted.{EndsPast}
use Rattle.report_run.proofs.CountedNames.{part_ends_past}
use Rattle.groot_run.proofs.scope.rows_of.Goals as goal

pub returns-clause-listed : goal.returns-clause-listed
returns-clause-listed g c =
    let subject = g.N.Naming.subject in
    IfOk-weaker c.rows_at.result _ _
    (λ rows are. listed_same c.base_names.result.now subject.ground c.base_names.ensures subject.below (classes_of_rows rows)
    (subst (λ (above : Labels). AreListed c.base_names.result.now above (classes_of_rows rows)) c.requires are))
    c.rows_at.ensures.listed

pub returns-clause-err : goal.returns-clause-err
returns-clause-err g c =
    let subject = g.N.Naming.subject in
    IfErr-weaker c.rows_at.result _ _
    (λ ending ends. part_ends_past c.base_names.result.now subject.ground c.base_names.ensures subject.below c.args.names ending
    (subst (λ (above : Labels). EndsPast (IsInPart c.base_names.result.now above) c.args.names ending) c.requires ends))
    c.rows_at.ensures.err
