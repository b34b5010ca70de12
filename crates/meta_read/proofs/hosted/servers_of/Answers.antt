use Rattle.std.proofs.Common.{subst, true}
use Rattle.std.specs.BTreeSet as tree
use Rattle.dns_data.specs.Name.{name_cmp}
use Rattle.meta_read.proofs.Single.{has-more}
use Rattle.meta_read.proofs.hosted.servers_of.Goals as goal

pub loop-row-preserved : goal.loop-row-preserved
loop-row-preserved c =
    has-more (λ row. row.server) c.args.rows.now c.loop-row.row-index c.loop-row.servers c.insert.new.self c.row-item.result c.loop-row-test.true c.row-item.is
    (subst (λ key. tree.Updates name_cmp c.loop-row.servers c.insert.new.self key true) c.in_ok-copy.ensures c.in_ok-insert.ensures.updates)
    c.loop-row.invariant
