use Rattle.std.proofs.Common.{Bor, Contains}
use Rattle.net_model.specs.declared.config.Config.{Config}
use Rattle.net_model.specs.Reading.{redirections_of}
use Rattle.base_names.specs.Base.{IsInConfig}
use Rattle.label_graph.proofs.Passing.{more_iff, whole_iff}
use Rattle.base_names.proofs.base.put_all.Goals as goal

pub loop-hosts-preserved : goal.loop-hosts-preserved
loop-hosts-preserved c =
    record {
      prefixes = c.in_ok-put_hosts.ensures.prefixes;
      names = λ name. more_iff (λ (hosts : Bor Config). IsInConfig name hosts.now) c.args.all.now c.loop-hosts.hosts-index c.hosts-item.result
          c.loop-hosts-test.true c.hosts-item.is _ _ _ (c.loop-hosts.invariant.names name) (c.in_ok-put_hosts.ensures.names name);
      pairs = λ pair. more_iff (λ (hosts : Bor Config). Contains (redirections_of hosts.now) pair) c.args.all.now c.loop-hosts.hosts-index c.hosts-item.result
          c.loop-hosts-test.true c.hosts-item.is _ _ _ (c.loop-hosts.invariant.pairs pair) (c.in_ok-put_hosts.ensures.pairs pair);
    }

pub returns-clause-names : goal.returns-clause-names
returns-clause-names c name =
    whole_iff (λ (hosts : Bor Config). IsInConfig name hosts.now) c.args.all.now c.loop-hosts.hosts-index c.loop-hosts-test.false
    _ _ (c.loop-hosts.invariant.names name)

pub returns-clause-pairs : goal.returns-clause-pairs
returns-clause-pairs c pair =
    whole_iff (λ (hosts : Bor Config). Contains (redirections_of hosts.now) pair) c.args.all.now c.loop-hosts.hosts-index c.loop-hosts-test.false
    _ _ (c.loop-hosts.invariant.pairs pair)
