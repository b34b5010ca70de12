use Rattle.std.proofs.Common.{Bool, find, ap, ◌∙◌}
use Rattle.dns_data.specs.Name.{name_eq}
use Rattle.net_model.specs.declared.config.Server.{Server}
use Rattle.net_model.specs.declared.config.Zone.{Zone}
use Rattle.zone_tree.specs.Tree.{ZoneTree}
use Rattle.zone_lookup.proofs.FirstsByName.{told}
use Rattle.zone_lookup.proofs.hosts.Host.tree_of.Goals as goal

pub returns : goal.returns
returns c =
    let origin = c.args.origin.now in
    let test : ZoneTree → Bool = λ (tree : ZoneTree). name_eq tree.zone.origin origin in
    told (λ (tree : ZoneTree). tree.zone) c.item_named.result (find test c.self.inside.trees.items)
    (c.item_named.ensures ∙ ap (find test) c.as_slice.ensures.value)
    ∙ c.self.invariant.firsts origin
    ∙ ap (λ (server : Server). find (λ (zone : Zone). name_eq zone.origin origin) server.zones) c.self.view_is
