use Rattle.map_run.specs.Chain.{record_lines}
use Rattle.map_run.proofs.RowsBefore.{flat_more}
use Rattle.map_run.proofs.chain.put_single_records.Goals as goal

pub loop-rr-preserved : goal.loop-rr-preserved
loop-rr-preserved c =
    flat_more (record_lines c.args.row.now c.args.tree.now.zone) c.args.lines.now c.args.rrs.now c.loop-rr.rr-index c.rr-item.result
    c.loop-rr.lines c.put_single_record.new.lines c.loop-rr-test.true c.rr-item.is c.loop-rr.invariant c.in_ok-put_single_record.ensures
