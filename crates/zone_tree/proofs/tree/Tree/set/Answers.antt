use Rattle.std.proofs.Common.{sym, ap, ◌∙◌}
use Rattle.net_model.specs.Order.{in_order}
use Rattle.net_model.specs.Zone.{data_cmp}
use Rattle.zone_tree.specs.Records.{data_of}
use Rattle.zone_tree.specs.Tree.{name_of}
use Rattle.zone_tree.proofs.NameData.{data_of_type}
use Rattle.zone_tree.proofs.Types.{sets_tell}
use Rattle.zone_tree.proofs.tree.Tree.set.Goals as goal

pub returns : goal.returns
returns c =
    let zone = c.args.self.now.zone in
    let name = name_of c.args.self.now c.args.node in
    c.set.ensures
    ∙ (sets_tell (data_of zone.rrs name) c.records.result.sets c.records.ensures.sets c.args.t).0
    ∙ ap (in_order data_cmp) (sym (data_of_type name c.args.t zone.rrs))
