use Rattle.std.proofs.Common.{◌++◌, ◌∷◌, [], List, map, take, sym, ap, ◌∙◌}
use Rattle.std.proofs.lemmas.List.{take_more, map-append}
use Rattle.dns_data.specs.Name.{Labels, is_among}
use Rattle.net_model.specs.declared.config.Server.{Server}
use Rattle.address_deps.proofs.Growing.{put_last}
use Rattle.address_deps.proofs.sets.all_servers.Goals as goal

pub loop-server-preserved : goal.loop-server-preserved
loop-server-preserved c = λ name.
    let servers = c.servers-server-items.result.now in
    let index = c.loop-server.server-index in
    let server = c.server-item.result in
    let names = map (λ (s : Server). s.name) (take index servers) in
    c.in_ok-put.ensures name
    ∙ put_last names server.name name (is_among c.loop-server.all name) (c.loop-server.invariant name)
    ∙ sym (ap (λ (xs : List Labels). is_among xs name)
    (ap (map (λ (s : Server). s.name)) (take_more servers index server c.loop-server-test.true ∙ ap (λ (s : Server). take index servers ++ s ∷ []) (sym c.server-item.is))
    ∙ map-append (λ (s : Server). s.name) (take index servers) (server ∷ [])))
