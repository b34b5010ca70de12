use Rattle.std.proofs.Common.{map, Bor, sym, ap, ◌∙◌}
use Rattle.std.proofs.lemmas.Result.{IfOk-weaker}
use Rattle.std.proofs.lemmas.Simd.{map-map}
use Rattle.dns_data.specs.Name.{Labels}
use Rattle.net_model.specs.declared.config.Config.{Config}
use Rattle.zone_lookup.specs.Tops.{tops_holding}
use Rattle.straight_walks.specs.Searching.{state_at}
use Rattle.straight_walks.proofs.BeginningSearches.{begins_at_all, begins_at_holding}
use Rattle.straight_walks.proofs.queue.start_states.Goals as goal

pub returns-then-count-le-FEW_TOPS : goal.returns-then-count-le-FEW_TOPS
returns-then-count-le-FEW_TOPS c = IfOk-weaker c.all_states.result _ _ (λ queue is query between. begins_at_all c.args.hosts.now query queue.items (is query)) c.all_states.ensures

pub returns : goal.returns
returns c =
    let config = c.args.hosts.now in
    IfOk-weaker c.states_at.result _ _
    (λ queue is query between.
    begins_at_holding config query queue.items c.args.name.now between
    (is query
    ∙ ap (map (λ (server : Bor Labels). state_at config query server.now 0)) c.as_slice.ensures.value
    ∙ sym (map-map (λ (server : Labels). state_at config query server 0) (λ (server : Bor Labels). server.now) c.in_ok-holding.holding.items)
    ∙ ap (map (λ (server : Labels). state_at config query server 0)) (c.in_ok-holding.ensures ∙ ap (λ (k : Config). tops_holding k c.args.name.now) c.requires)))
    c.states_at.ensures
