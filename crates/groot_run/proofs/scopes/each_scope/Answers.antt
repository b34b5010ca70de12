use Rattle.std.proofs.Common.{◌∙◌}
use Rattle.groot_run.proofs.ScopeTexts.{all_scopes, ends_at_next, goes_on_behind_next}
use Rattle.groot_run.proofs.scopes.each_scope.Goals as goal

pub returns-in_err-more : goal.returns-in_err-more
returns-in_err-more g c =
    ends_at_next c.args.limit c.args.graphs c.loop-name.graphs c.loop-name.invariant.back c.args.names.now c.loop-name.name-index c.name-item.result c.loop-name.text
    c.loop-name-test.true c.name-item.is c.loop-name.invariant.goes c.in_err-more.field-0.0 c.from_residual.result c.from_residual.ensures.1 c.in_err-more.ensures.err

pub loop-name-preserved : goal.loop-name-preserved
loop-name-preserved g c = record {
  back = c.in_ok-more.ensures.back ∙ c.loop-name.invariant.back;
  goes = goes_on_behind_next c.args.limit c.args.graphs c.loop-name.graphs c.loop-name.invariant.back c.args.names.now c.loop-name.name-index c.name-item.result c.loop-name.text
      c.loop-name-test.true c.name-item.is c.loop-name.invariant.goes c.in_ok-more.more c.in_ok-text.text c.in_ok-more.ensures.text c.in_ok-text.ensures.faulty
      c.in_ok-text.ensures.pieces;
}

pub returns : goal.returns
returns g c =
    all_scopes c.args.limit c.args.graphs.config c.args.names.now c.loop-name.name-index c.loop-name.text c.loop-name-test.false c.loop-name.invariant.goes
