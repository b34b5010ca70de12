use Rattle.std.proofs.Common.{List, [], sym, ap, ◌∙◌}
use Rattle.std.proofs.lemmas.Result.{IfOk-weaker}
use Rattle.dns_data.specs.declared.rdata.Rdata.{Rdata}
use Rattle.dns_data.specs.declared.rr_type.RrType.TheVariants as types
use Rattle.net_model.specs.Order.{in_order}
use Rattle.net_model.specs.Zone.{data_at, data_cmp}
use Rattle.zone_tree.specs.Merged.{put_each}
use Rattle.zone_tree.specs.Tree.{name_of}
use Rattle.zone_tree.proofs.Merged.{in_order_both, data_total}
use Rattle.zone_tree.proofs.tree.Tree.addresses.Goals as goal

pub returns : goal.returns
returns c =
    let zone = c.args.self.now.zone in
    let name = name_of c.args.self.now c.args.node in
    IfOk-weaker c.merged.result _ _
    (λ all is. is
    ∙ ap (λ (some : List Rdata). put_each data_cmp some (put_each data_cmp c.set-2.result.now [])) c.set.ensures
    ∙ ap (λ (others : List Rdata). put_each data_cmp (in_order data_cmp (data_at zone name types.A)) (put_each data_cmp others [])) c.set-2.ensures
    ∙ sym (in_order_both data_cmp data_total (data_at zone name types.A) (data_at zone name types.Aaaa)))
    c.merged.ensures
