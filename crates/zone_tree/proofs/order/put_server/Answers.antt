use Rattle.std.proofs.Common.{List, Bor, map, sym, ap, ◌∙◌}
use Rattle.std.specs.List.{insert}
use Rattle.dns_data.specs.Name.{Labels, name_cmp}
use Rattle.net_model.specs.Order.{put_in_order}
use Rattle.zone_tree.proofs.ByText.{now_of}
use Rattle.zone_tree.proofs.InPlace.{now_inserted}
use Rattle.zone_tree.proofs.order.put_server.Goals as goal

pub returns-in_ok-insert : goal.returns-in_ok-insert
returns-in_ok-insert c =
    let server = c.args.server in
    let place = c.in-Some.place in
    ap (map now_of) c.in_ok-insert.ensures.items
    ∙ now_inserted c.args.servers.now.items place server
    ∙ sym (ap (λ (xs : List (Bor Labels)). insert (map now_of xs) place server.now) c.as_slice.ensures.value)
    ∙ sym c.in-Some.ensures.puts
    ∙ ap (λ (xs : List (Bor Labels)). put_in_order name_cmp server.now (map now_of xs)) c.as_slice.ensures.value
