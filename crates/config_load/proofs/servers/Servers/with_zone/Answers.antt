use Rattle.std.proofs.Common.{◌≡◌, true, false, List, Ok, inr, subst, sym, ap, ◌∙◌}
use Rattle.std.specs.BTreeSet as tree
use Rattle.std.specs.Cmp.Lexicographic.{slice_cmp}
use Rattle.dns_data.specs.Name.{Labels, name_cmp}
use Rattle.net_model.specs.declared.config.Server.{Server}
use Rattle.net_model.specs.Configured.{AreConsistent}
use Rattle.config_load.specs.Hosted.{AreHeld}
use Rattle.config_load.specs.Servers.{has_zone, with_zone}
use Rattle.config_load.proofs.ConsistentServers.{still_consistent}
use Rattle.config_load.proofs.ServerPlaces.{AreHeld-more, given-twice, given-more, known-added}
use Rattle.config_load.proofs.servers.Servers.with_zone.Goals as goal

pub returns-then-not-branch : goal.returns-then-not-branch
returns-then-not-branch c =
    let name = c.args.name.now in
    let origin = c.args.zone.origin in
    let had : tree.contains (slice_cmp name_cmp) c.self.inside.held c.in_ok-origin_and_server.field-0 ≡ true = known-added c.in_ok-insert.field-0 _ false c.if-not-branch.true c.in_ok-insert.ensures.added in
    let has : has_zone name origin c.args.self ≡ true = ap (λ (servers : List Server). has_zone name origin servers) (sym c.self.view_is) ∙ (sym (c.self.invariant.1 name origin) ∙ (ap (λ (origin_and_server : List Labels). tree.contains (slice_cmp name_cmp) c.self.inside.held origin_and_server) (sym c.in_ok-origin_and_server.ensures) ∙ had)) in
    inr (given-twice c.args.row name c.args.zone c.args.self has)

pub invariant_of-result : goal.invariant_of-result
invariant_of-result c =
    let name = c.args.name.now in
    let zone = c.args.zone in
    let servers = c.self.inside.servers.items in
    let none : has_zone name zone.origin servers ≡ false =
    sym (c.self.invariant.1 name zone.origin)
    ∙ ap (λ (origin_and_server : List Labels). tree.contains (slice_cmp name_cmp) c.self.inside.held origin_and_server) (sym c.in_ok-origin_and_server.ensures)
    ∙ known-added c.in_ok-insert.field-0 _ true c.if-not-branch.false c.in_ok-insert.ensures.added in
    let added = subst (λ (origin_and_server : List Labels). tree.Updates (slice_cmp name_cmp) c.self.inside.held c.insert.new.self origin_and_server true) c.in_ok-origin_and_server.ensures c.in_ok-insert.ensures.updates in (
      c.in_ok-put_zone.ensures.places,
      subst (λ (more : List Server). AreHeld c.insert.new.self more) (sym c.in_ok-put_zone.ensures.servers)
          (AreHeld-more c.self.inside.held c.insert.new.self name zone servers c.self.invariant.1 added),
      subst AreConsistent (sym c.in_ok-put_zone.ensures.servers) (still_consistent name zone c.requires servers none c.self.invariant.2),
    )

pub returns : goal.returns
returns c =
    let name = c.args.name.now in
    let origin = c.args.zone.origin in
    let had : tree.contains (slice_cmp name_cmp) c.self.inside.held c.in_ok-origin_and_server.field-0 ≡ false = known-added c.in_ok-insert.field-0 _ true c.if-not-branch.false c.in_ok-insert.ensures.added in
    let has : has_zone name origin c.args.self ≡ false = ap (λ (servers : List Server). has_zone name origin servers) (sym c.self.view_is) ∙ (sym (c.self.invariant.1 name origin) ∙ (ap (λ (origin_and_server : List Labels). tree.contains (slice_cmp name_cmp) c.self.inside.held origin_and_server) (sym c.in_ok-origin_and_server.ensures) ∙ had)) in
    given-more c.args.row name c.args.zone c.args.self has
    ∙ ap (λ (servers : List Server). Ok servers) (ap (λ (servers : List Server). with_zone name c.args.zone servers) (sym c.self.view_is) ∙ sym c.in_ok-put_zone.ensures.servers)
