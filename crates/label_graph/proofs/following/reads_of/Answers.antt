use Rattle.std.proofs.Common.{◌+◌, ◌-◌, ◌*◌, ◌<◌, Bool, true≢false, cond, List, length, sym, ap, subst}
use Rattle.dns_data.specs.Name.{Labels}
use Rattle.label_graph.specs.Rows.{total}
use Rattle.label_graph.specs.Targets.{AreTrue}
use Rattle.label_graph.proofs.FollowedTargets.{none_true, all_passed, less_left}
use Rattle.label_graph.proofs.following.reads_of.Goals as goal

pub loop-more-init : goal.loop-more-init
loop-more-init c =
    record {
      each_true = subst (AreTrue c.args.base.now c.args.dnames.now) (sym c.new-reads.ensures)
          (none_true c.args.base.now c.args.dnames.now (length c.names.result.now) (ap (λ (names : List Labels). length names) c.names.ensures.same));
      all = λ none. absurd (true≢false none);
    }

pub follow_all-requires-clause-order : goal.follow_all-requires-clause-order
follow_all-requires-clause-order c = c.names.ensures.table.ordered

pub follow_all-requires-clause-each_true : goal.follow_all-requires-clause-each_true
follow_all-requires-clause-each_true c = c.loop-more.invariant.each_true

pub loop-more-preserved : goal.loop-more-preserved
loop-more-preserved c =
    record {
      each_true = c.in_ok-more.ensures.each_true;
      all = all_passed c.args.base.now c.args.dnames.now c.loop-more.reads c.follow_all.new.reads c.in_ok-more.more c.in_ok-more.ensures;
    }

pub loop-more-smaller : goal.loop-more-smaller
loop-more-smaller c =
    let names = c.args.base.now in
    subst (λ (more : Bool). length names * length names - total c.follow_all.new.reads + cond c.in_ok-more.more 1 0
    < length names * length names - total c.loop-more.reads + cond more 1 0) (sym c.loop-more-test.true)
    (less_left names c.args.dnames.now c.loop-more.reads c.follow_all.new.reads c.in_ok-more.more c.in_ok-more.ensures)

pub returns : goal.returns
returns c = record { each_true = c.loop-more.invariant.each_true; all = c.loop-more.invariant.all c.loop-more-test.false }
