use Rattle.std.proofs.Common.{Bool, find, sym, ap, ◌∙◌}
use Rattle.std.proofs.lemmas.Iterator.Adapters.{option_map_id}
use Rattle.dns_data.specs.Name.{name_eq}
use Rattle.net_model.specs.declared.config.Config.{Config}
use Rattle.net_model.specs.declared.config.Server.{Server}
use Rattle.zone_lookup.proofs.hosts.Hosts.host_near.Goals as goal

pub returns : goal.returns
returns c =
    let test : Server → Bool = λ (server : Server). name_eq server.name c.args.name.now in
    c.item_near.ensures
    ∙ ap (find test) c.as_slice.ensures.value
    ∙ sym (option_map_id (find test c.self.inside.hosts.items))
    ∙ c.self.invariant.0.firsts c.args.name.now
    ∙ ap (λ (config : Config). find test config.servers) c.self.view_is
