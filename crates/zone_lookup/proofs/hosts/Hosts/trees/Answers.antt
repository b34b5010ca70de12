use Rattle.std.proofs.Common.{List, sym, subst}
use Rattle.net_model.specs.declared.config.Config.{Config}
use Rattle.zone_tree.specs.Tree.{ZoneTree}
use Rattle.zone_lookup.specs.Hosts.{HaveZonesOf}
use Rattle.zone_lookup.proofs.hosts.Hosts.trees.Goals as goal

pub returns : goal.returns
returns c =
    subst (λ (trees : List ZoneTree). HaveZonesOf c.args.self.now trees) (sym c.as_slice.ensures.value)
    (subst (λ (config : Config). HaveZonesOf config c.self.inside.trees.items) c.self.view_is c.self.invariant.1)
