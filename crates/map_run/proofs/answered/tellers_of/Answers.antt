use Rattle.std.proofs.Common.{◌∙◌}
use Rattle.dns_data.proofs.FirstItems.{any-next}
use Rattle.map_run.specs.ReachedRows.{is_answering, tells}
use Rattle.map_run.proofs.answered.tellers_of.Goals as goal

pub loop-one-preserved : goal.loop-one-preserved
loop-one-preserved c = λ server origin.
    c.in_ok-put_tellers.ensures server origin
    ∙ any-next (is_answering server origin) c.args.answered.now c.loop-one.one-index c.one-item.result (tells c.loop-one.tellers server origin) c.loop-one-test.true c.one-item.is
    (c.loop-one.invariant server origin)
