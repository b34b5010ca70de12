use Rattle.std.proofs.Common.{Bor}
use Rattle.dns_data.specs.Name.{Labels}
use Rattle.label_graph.specs.Targets.{IsPrefixFrom}
use Rattle.label_graph.proofs.Passing.{more_iff, whole_iff}
use Rattle.label_graph.proofs.base.put_names.Goals as goal

pub loop-name-preserved : goal.loop-name-preserved
loop-name-preserved c =
    record {
      prefixes = c.in_ok-put_new_fronts.ensures.prefixes;
      names = λ name. more_iff (λ (one : Bor Labels). IsPrefixFrom 0 one.now name) c.args.more.now c.loop-name.name-index c.name-item.result
          c.loop-name-test.true c.name-item.is _ _ _ (c.loop-name.invariant.names name) (c.in_ok-put_new_fronts.ensures.fronts name);
    }

pub returns : goal.returns
returns c name =
    whole_iff (λ (one : Bor Labels). IsPrefixFrom 0 one.now name) c.args.more.now c.loop-name.name-index c.loop-name-test.false
    _ _ (c.loop-name.invariant.names name)
