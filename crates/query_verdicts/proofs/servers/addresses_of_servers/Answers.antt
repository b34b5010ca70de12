use Rattle.std.proofs.Common.{◌≡◌, ◌∙◌, ◌+◌, ◌≤◌, ◌<◌, List, Result, Err, take, get_or, length, sym, ap, subst}
use Rattle.interp_graph.specs.declared.fault.GraphFault.{GraphFault}
use Rattle.net_model.specs.declared.config.Config.{Config}
use Rattle.net_model.specs.declared.config.Server.{Server}
use Rattle.query_verdicts.specs.Passed.{IsFirstServerPassed}
use Rattle.address_deps.specs.declared.addresses.AddressLearnt.{AddressLearnt}
use Rattle.query_verdicts.proofs.ServerAddresses.{AreSoFar, all_addresses, first_server, none_passes, one_address_more}
use Rattle.query_verdicts.proofs.servers.addresses_of_servers.Goals as goal

pub address_of-requires : goal.address_of-requires
address_of-requires c = record { tops = c.in_ok-tops.ensures; known = c.loop-server.invariant.known }

pub loop-server-preserved : goal.loop-server-preserved
loop-server-preserved c =
    let queries = c.args.queries.now in
    let servers = c.servers-server-items.result.now in
    let index = c.loop-server.server-index in
    record {
      so_far = subst (AreSoFar queries.trees queries.rewrites queries.states (take (index + 1) servers)) (sym c.in_ok-push-in-Ok.ensures.ok)
          (one_address_more queries.trees queries.rewrites queries.states servers index c.loop-server.addresses c.server-item.result c.in-Ok.one c.loop-server-test.true
          (sym c.server-item.is) c.loop-server.invariant.so_far c.in-Ok.ensures.address c.in-Ok.ensures.few);
      known = c.in-Ok.ensures.known;
    }

pub returns-in-Err-StatesPassed : goal.returns-in-Err-StatesPassed
returns-in-Err-StatesPassed c =
    let queries = c.args.queries.now in
    let index = c.loop-server.server-index in
    let server = c.server-item.result in
    let are : c.servers-server-items.result.now ≡ queries.trees.servers = c.servers-server-items.ensures.servers ∙ ap (λ (x : Config). x.servers) c.config-config.ensures in
    subst (IsFirstServerPassed queries.trees queries.rewrites queries.states) (sym c.in_ok-copy-in-Err-StatesPassed.ensures)
    (first_server queries.trees queries.rewrites queries.states index c.loop-server.addresses server
    (subst (λ (servers : List Server). index < length servers) are c.loop-server-test.true)
    (subst (λ (servers : List Server). get_or servers index server ≡ server) are (sym c.server-item.is))
    (subst (λ (servers : List Server). AreSoFar queries.trees queries.rewrites queries.states (take index servers) c.loop-server.addresses) are c.loop-server.invariant.so_far)
    c.labels.ensures.name (c.in-Err-StatesPassed.ensures.passed (ap {B = Result AddressLearnt GraphFault} (λ (fault : GraphFault). Err fault) c.in-Err-StatesPassed.field-0-is)))

pub returns : goal.returns
returns c =
    let queries = c.args.queries.now in
    let index = c.loop-server.server-index in
    let are : c.servers-server-items.result.now ≡ queries.trees.servers = c.servers-server-items.ensures.servers ∙ ap (λ (x : Config). x.servers) c.config-config.ensures in
    let long = subst (λ (servers : List Server). length servers ≤ index) are c.loop-server-test.false in
    let so_far = subst (λ (servers : List Server). AreSoFar queries.trees queries.rewrites queries.states (take index servers) c.loop-server.addresses) are c.loop-server.invariant.so_far in (
      all_addresses queries.trees queries.rewrites queries.states index c.loop-server.addresses long so_far,
      none_passes queries.trees queries.rewrites queries.states index c.loop-server.addresses long so_far,
    )
