use Rattle.dns_data.proofs.Answers.{if_err_handed_on}
use Rattle.query_classes.specs.ClassList.{classes_of_rows}
use Rattle.groot_run.specs.ShownClasses.{EndsAmongClasses}
use Rattle.groot_run.proofs.ShownClasses.{shown_none, shown_row, shown_all, ends_at_row}
use Rattle.groot_run.proofs.site.show_rows.Goals as goal

pub loop-row-init : goal.loop-row-init
loop-row-init g c = record { shown = shown_none _ _; last = tt }

pub show_row-requires : goal.show_row-requires
show_row-requires g c = c.loop-row.invariant.last

pub loop-row-preserved : goal.loop-row-preserved
loop-row-preserved g c = record {
  shown = shown_row _ c.args.rows.now c.loop-row.row-index c.row-item.result _ _ _ c.loop-row-test.true c.row-item.is c.loop-row.invariant.shown
      c.in_ok-show_row.ensures.ok;
  last = c.in_ok-show_row.ensures.last;
}

pub returns-clause-ok : goal.returns-clause-ok
returns-clause-ok g c = shown_all _ c.args.rows.now c.loop-row.row-index _ _ c.loop-row-test.false c.loop-row.invariant.shown

pub returns-in_err-show_row-clause-err : goal.returns-in_err-show_row-clause-err
returns-in_err-show_row-clause-err g c =
    if_err_handed_on (EndsAmongClasses c.args.graphs.now (classes_of_rows c.args.rows.now)) c.in_err-show_row.field-0.0 c.from_residual.result c.from_residual.ensures.1
    (ends_at_row c.args.graphs.now c.args.rows.now c.loop-row.row-index c.row-item.result c.in_err-show_row.field-0.0 c.loop-row-test.true c.row-item.is
    c.loop-row.invariant.shown.none_passes c.in_err-show_row.ensures.err)
