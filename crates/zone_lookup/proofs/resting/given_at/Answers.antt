use Rattle.std.proofs.Common.{Bor, List, [], ◌∷◌, ◌++◌, map, take, ◌||◌, sym, ap, ◌∙◌, subst}
use Rattle.std.proofs.lemmas.List.{map-append, take_more}
use Rattle.dns_data.specs.Name.{Labels}
use Rattle.zone_lookup.specs.Resting.{AreEnds}
use Rattle.zone_lookup.proofs.NamesAtRest.{ends_more}
use Rattle.zone_lookup.proofs.resting.given_at.Goals as goal

pub loop-server-preserved : goal.loop-server-preserved
loop-server-preserved c =
    let config = c.args.hosts.now in
    let name = c.args.name.now in
    let servers = c.args.servers.now in
    let index = c.loop-server.server-index in
    let server = c.server-item.result in
    let now_of = λ (s : Bor Labels). s.now in
    subst (λ (names : List Labels). AreEnds config name names (c.loop-server.given || c.in_ok-here.here))
    (sym (ap (map now_of) (take_more servers index server c.loop-server-test.true ∙ ap (λ (s : Bor Labels). take index servers ++ s ∷ []) (sym c.server-item.is))
    ∙ map-append now_of (take index servers) (server ∷ [])))
    (ends_more config name (map now_of (take index servers)) server.now c.loop-server.given c.in_ok-here.here c.loop-server.invariant c.in_ok-here.ensures)
