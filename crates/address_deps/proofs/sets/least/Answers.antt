use Rattle.std.proofs.Common.{subst, sym, arith}
use Rattle.std.proofs.lemmas.Result.{IfOk-weaker}
use Rattle.net_model.specs.Learnt.{IsLeast}
use Rattle.address_deps.specs.Sets.{IsGrowing}
use Rattle.address_deps.proofs.Growing.{none_more_in_all, grows_from_none, is_least_set}
use Rattle.address_deps.proofs.sets.least.Goals as goal

pub settled-requires : goal.settled-requires
settled-requires c = record {
  many = c.requires.many;
  dependents = c.requires.dependents;
  fair = subst (IsGrowing c.args.hosts.now c.args.addresses.now) (sym c.new-none.ensures) (grows_from_none c.args.hosts.now c.args.addresses.now);
}

pub returns : goal.returns
returns c =
    let config = c.args.hosts.now in
    let addresses = c.args.addresses.now in
    let names = c.in_ok-learnt.learnt in
    IfOk-weaker c.in_order.result _ _
    (λ list are rewrites of_servers.
    subst (IsLeast config rewrites) (sym are)
    (is_least_set config addresses names c.in_ok-learnt.ensures.fair
    (none_more_in_all config addresses names (λ place within. c.in_ok-learnt.ensures.settled place (omega (arith, within, c.requires.many))))
    rewrites of_servers))
    c.in_order.ensures
