use Rattle.std.proofs.Common.{subst, sym, ◌∙◌, arith}
use Rattle.std.proofs.lemmas.Result.{IfOk-weaker}
use Rattle.net_model.specs.Learnt.{IsGreatest}
use Rattle.net_model.specs.Nearest.{server_names}
use Rattle.net_model.proofs.Naming.{is_listed}
use Rattle.address_deps.proofs.Growing.{all_learnt, is_greatest_set, shrinks_from_all}
use Rattle.address_deps.proofs.sets.greatest.Goals as goal

pub settled-requires : goal.settled-requires
settled-requires c = record {
  many = c.requires.many;
  dependents = c.requires.dependents;
  fair = shrinks_from_all c.args.hosts.now c.args.addresses.now c.in_ok-all.all
      (λ name has. sym (c.in_ok-all.ensures name) ∙ has)
      (λ name among. c.in_ok-all.ensures name ∙ is_listed (server_names c.args.hosts.now) name among);
}

pub returns : goal.returns
returns c =
    let config = c.args.hosts.now in
    let addresses = c.args.addresses.now in
    let names = c.in_ok-known.known in
    IfOk-weaker c.in_order.result _ _
    (λ list are rewrites of_servers.
    subst (IsGreatest config rewrites) (sym are)
    (is_greatest_set config addresses names c.in_ok-known.ensures.fair
    (all_learnt config addresses names (λ place within. c.in_ok-known.ensures.settled place (omega (arith, within, c.requires.many))))
    rewrites of_servers))
    c.in_order.ensures
