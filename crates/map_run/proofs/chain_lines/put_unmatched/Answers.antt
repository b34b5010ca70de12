use Rattle.map_run.specs.Chain.{unmatched_line}
use Rattle.map_run.proofs.RowsBefore.{map_more}
use Rattle.map_run.proofs.chain_lines.put_unmatched.Goals as goal

pub loop-one-preserved : goal.loop-one-preserved
loop-one-preserved c =
    map_more (unmatched_line c.args.at.now c.args.child.now) c.args.lines.now c.args.others.now c.loop-one.one-index c.one-item.result
    c.loop-one.lines c.put_child_line.new.lines c.loop-one-test.true c.one-item.is c.loop-one.invariant (rw (← c.items-place.ensures) c.in_ok-put_child_line.ensures)
