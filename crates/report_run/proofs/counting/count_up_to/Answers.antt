use Rattle.std.proofs.Common.{arith}
use Rattle.report_run.proofs.PassedNames.{has_more, next_is_live, none_passed, one_passed}
use Rattle.report_run.proofs.counting.count_up_to.Goals as goal

pub loop-next-init : goal.loop-next-init
loop-next-init c =
    record {
      passed = none_passed c.args.graph.now c.graph_is_closed.ensures c.in_ok-root.field-0 c.new-waiting.result.items c.push.new.self.items c.in_ok-root.ensures.root
          c.in_ok-root.ensures.live c.new-waiting.ensures.items c.in_ok-push.ensures.items;
      few = omega arith;
    }

pub returns-then-counted-most : goal.returns-then-counted-most
returns-then-counted-most c said =
    has_more c.args.graph.now c.graph_is_closed.ensures c.loop-next.counted c.loop-next.waiting.items c.pop.new.self.items c.in-Some.next c.loop-next.invariant.passed
    c.in-Some.ensures.items c.args.most c.if-counted-most.true

pub children-requires : goal.children-requires
children-requires c =
    next_is_live c.args.graph.now c.graph_is_closed.ensures c.loop-next.counted c.loop-next.waiting.items c.pop.new.self.items c.in-Some.next c.loop-next.invariant.passed
    c.in-Some.ensures.items

-- two ways lead on, since the name that was passed may be kept in the name itself or beside it
pub loop-next-preserved : goal.loop-next-preserved
loop-next-preserved c =
    record {
      passed = one_passed c.args.graph.now c.graph_is_closed.ensures c.loop-next.counted c.loop-next.waiting.items c.pop.new.self.items c.in-Some.next
          c.loop-next.invariant.passed c.in-Some.ensures.items c.in_ok-children.field-0 c.put_last_first.new.waiting.items c.in_ok-children.ensures.names
          c.in_ok-children.ensures.live c.in_ok-put_last_first.ensures;
      few = omega (arith, c.loop-next.invariant.few, c.if-counted-most.false);
    }

pub loop-next-preserved-in_ok-put_last_first : goal.loop-next-preserved-in_ok-put_last_first
loop-next-preserved-in_ok-put_last_first c =
    record {
      passed = one_passed c.args.graph.now c.graph_is_closed.ensures c.loop-next.counted c.loop-next.waiting.items c.pop.new.self.items c.in-Some.next
          c.loop-next.invariant.passed c.in-Some.ensures.items c.in_ok-children.field-0 c.put_last_first.new.waiting.items c.in_ok-children.ensures.names
          c.in_ok-children.ensures.live c.in_ok-put_last_first.ensures;
      few = omega (arith, c.loop-next.invariant.few, c.if-counted-most.false);
    }
