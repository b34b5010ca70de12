use Rattle.std.proofs.Common.{ap}
use Rattle.std.proofs.lemmas.Result.{IfErr-weaker, on_ok_weaker}
use Rattle.dns_data.proofs.Answers.{if_err_handed_on}
use Rattle.net_model.specs.declared.class.Class.TheVariants.{Exact, Below}
use Rattle.query_classes.specs.ClassList.{classes_of_row}
use Rattle.groot_run.specs.ShownClasses.{EndsAmongClasses}
use Rattle.groot_run.proofs.ShownClasses.{shown_both, ends_exact, ends_below}
use Rattle.groot_run.proofs.site.show_row.Goals as goal

pub returns-in_err-show_class-clause-err : goal.returns-in_err-show_class-clause-err
returns-in_err-show_class-clause-err g c =
    if_err_handed_on (EndsAmongClasses c.args.graphs.now (classes_of_row c.args.row.now)) c.in_err-show_class.field-0.0 c.from_residual-in_err-show_class.result
    c.from_residual-in_err-show_class.ensures.1
    (ends_exact c.args.graphs.now c.args.row.now _ c.in_err-show_class.field-0.0 (ap Exact c.in_ok-copy.ensures) c.in_err-show_class.ensures.err)

pub returns-in-Some-clause-ok : goal.returns-in-Some-clause-ok
returns-in-Some-clause-ok g c =
    on_ok_weaker c.show_class-in-Some.result
    (λ below. shown_both _ c.args.row.now _ _ _ _ _ _ c.in-Some.is (ap Exact c.in_ok-copy.ensures) (ap Below c.in_ok-copy-in-Some.ensures)
    c.in_ok-show_class.ensures.ok below)
    c.show_class-in-Some.ensures.ok

pub returns-in-Some-clause-err : goal.returns-in-Some-clause-err
returns-in-Some-clause-err g c =
    IfErr-weaker c.show_class-in-Some.result _ _
    (λ ending ends. ends_below _ c.args.row.now _ _ _ ending c.in-Some.is (ap Exact c.in_ok-copy.ensures) (ap Below c.in_ok-copy-in-Some.ensures)
    c.in_ok-show_class.ensures.ok.none_passes ends)
    c.show_class-in-Some.ensures.err
