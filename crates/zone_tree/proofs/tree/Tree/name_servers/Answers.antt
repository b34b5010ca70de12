use Rattle.std.proofs.Common.{List, Bor, map, sym, ap, ◌∙◌}
use Rattle.std.specs.List.{filter_map}
use Rattle.dns_data.specs.Name.{Labels, name_cmp}
use Rattle.dns_data.specs.declared.rdata.Rdata.{Rdata}
use Rattle.dns_data.specs.declared.rr_type.RrType.TheVariants as rr_type
use Rattle.net_model.specs.Order.{in_order}
use Rattle.net_model.specs.Zone.{target_of}
use Rattle.zone_tree.specs.Tree.{name_of}
use Rattle.zone_tree.proofs.NameData.{data_of_type}
use Rattle.zone_tree.proofs.tree.Tree.name_servers.Goals as goal

pub returns : goal.returns
returns c =
    ap (map (λ (server : Bor Labels). server.now)) c.servers.ensures
    ∙ c.records.ensures.servers
    ∙ ap (λ (all : List Rdata). in_order name_cmp (filter_map target_of all))
    (sym (data_of_type (name_of c.args.self.now c.args.node) rr_type.Ns c.args.self.now.zone.rrs))
