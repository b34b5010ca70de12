use Rattle.std.proofs.Common.{List, [], ◌∷◌, ◌+◌, ◌++◌, take, sym, ap, ◌∙◌, subst}
use Rattle.std.proofs.lemmas.List.{take_all, take_more}
use Rattle.dns_data.specs.Name.{Labels}
use Rattle.name_ends.specs.AtOnce.{AreSeen, either_seen}
use Rattle.name_ends.proofs.WalksAtOnce.{seen_more}
use Rattle.name_ends.proofs.at_once.seen_at.Goals as goal

pub loop-server-preserved : goal.loop-server-preserved
loop-server-preserved c =
    let config = c.args.hosts.now in
    let name = c.args.name.now in
    let servers = c.args.servers.now in
    let index = c.loop-server.server-index in
    let server = c.server-item.result in
    subst (AreSeen config name (take (index + 1) servers)) (sym c.either-seen.ensures)
    (subst (λ (all : List Labels). AreSeen config name all (either_seen c.loop-server.seen c.in_ok-here.here))
    (sym (take_more servers index server c.loop-server-test.true ∙ ap (λ (s : Labels). take index servers ++ s ∷ []) (sym c.server-item.is)))
    (seen_more config name (take index servers) server c.loop-server.seen c.in_ok-here.here c.loop-server.invariant c.in_ok-here.ensures))

pub returns : goal.returns
returns c =
    subst (λ (all : List Labels). AreSeen c.args.hosts.now c.args.name.now all c.loop-server.seen)
    (take_all c.loop-server.server-index c.args.servers.now c.loop-server-test.false) c.loop-server.invariant
