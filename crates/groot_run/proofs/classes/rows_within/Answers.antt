-- The rows of the class tree are the configuration's classes, since its graph has the configuration's ground.
use Rattle.std.proofs.Common.{[], subst}
use Rattle.std.proofs.lemmas.Result.{IfErr-weaker, IfOk-weaker, on_ok_weaker}
use Rattle.dns_data.specs.Name.{Labels}
use Rattle.net_model.specs.Reading.{ground_of}
use Rattle.net_model.specs.Tree.{HasMoreThan, IsInPart}
use Rattle.query_classes.specs.ClassList.{AreListed, classes_of_rows}
use Rattle.query_classes.proofs.SameGrounds.{listed_same}
use Rattle.report_run.specs.Counted.{EndsPast}
use Rattle.report_run.proofs.CountedNames.{ends_past, has_no_more}
use Rattle.groot_run.proofs.classes.rows_within.Goals as goal

pub returns-in-Ok-clause-listed : goal.returns-in-Ok-clause-listed
returns-in-Ok-clause-listed c =
    IfOk-weaker c.rows_at.result _ _
    (λ rows are. listed_same c.in-Ok.graph (ground_of c.args.config.now) c.in-Ok.ensures [] (classes_of_rows rows)
    (subst (λ (above : Labels). AreListed c.in-Ok.graph above (classes_of_rows rows)) c.root-top.ensures are))
    c.rows_at.ensures.listed

pub returns-in-Ok-clause-few : goal.returns-in-Ok-clause-few
returns-in-Ok-clause-few c =
    on_ok_weaker c.rows_at.result
    (λ few. has_no_more c.in-Ok.graph (ground_of c.args.config.now) c.in-Ok.ensures c.args.limit
    (subst (λ (above : Labels). HasMoreThan (IsInPart c.in-Ok.graph above) c.args.limit → ⊥) c.root-top.ensures few))
    c.rows_at.ensures.few

pub returns-in-Ok-clause-err : goal.returns-in-Ok-clause-err
returns-in-Ok-clause-err c =
    IfErr-weaker c.rows_at.result _ _
    (λ ending ends. ends_past c.in-Ok.graph (ground_of c.args.config.now) c.in-Ok.ensures c.args.limit ending
    (subst (λ (above : Labels). EndsPast (IsInPart c.in-Ok.graph above) c.args.limit ending) c.root-top.ensures ends))
    c.rows_at.ensures.err
