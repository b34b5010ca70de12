use Rattle.std.proofs.Common.{refl, ◌∙◌}
use Rattle.dns_data.specs.Name.{name_eq}
use Rattle.dns_data.proofs.Answers.{if_err_handed_on}
use Rattle.dns_data.proofs.FirstItems.{any-next}
use Rattle.config_load.specs.declared.loaded.RowFiles.{RowFiles}
use Rattle.map_run.specs.ShownOrigins.{EndsAmongRows, is_shown}
use Rattle.map_run.proofs.ShownOrigins.{ends_at_row, none_shown, seen_all, seen_more, seen_none}
use Rattle.map_run.proofs.shown.show_origins.Goals as goal

pub loop-row-init : goal.loop-row-init
loop-row-init g c = record {
  step = λ words view. refl;
  shown = none_shown c.new-shown.result c.new-shown.ensures.empty;
  seen = seen_none c.args.graphs.now _ _;
}

pub loop-row-preserved : goal.loop-row-preserved
loop-row-preserved g c =
    let kept = c.loop-row.invariant in
    let told = c.in_ok-show_new.ensures in
    let rows = c.args.rows.now in
    let row = c.row-item.result in
    record {
      step = λ words view. told.step words view ∙ kept.step words view;
      shown = λ origin.
          told.shown origin
          ∙ any-next (λ (r : RowFiles). name_eq origin r.origin) rows c.loop-row.row-index row (is_shown c.loop-row.shown origin) c.loop-row-test.true c.row-item.is (kept.shown origin);
      seen =
          seen_more c.args.graphs.now _ _ rows c.loop-row.row-index row _ _ _ (is_shown c.loop-row.shown) c.loop-row-test.true c.row-item.is kept.step kept.shown kept.seen told.ok;
    }

pub returns-clause-ok : goal.returns-clause-ok
returns-clause-ok g c = seen_all c.args.graphs.now _ c.args.rows.now c.loop-row.row-index _ _ c.loop-row-test.false c.loop-row.invariant.seen

pub returns-in_err-show_new-clause-err : goal.returns-in_err-show_new-clause-err
returns-in_err-show_new-clause-err g c =
    if_err_handed_on (EndsAmongRows c.args.graphs.now c.args.rows.now) c.in_err-show_new.field-0.0 c.from_residual.result c.from_residual.ensures.1
    (ends_at_row c.args.graphs.now c.args.rows.now c.loop-row.row-index c.row-item.result c.in_err-show_new.field-0.0 c.loop-row-test.true c.row-item.is
    c.loop-row.invariant.seen.none_passes c.in_err-show_new.ensures.err)
