use Rattle.std.proofs.Common.{◌≡◌, ◌∙◌, List, rules, ap}
use Rattle.std.specs.List.{filter}
use Rattle.std.proofs.lemmas.Fn.{filter_same}
use Rattle.dns_data.specs.Name.{is_among}
use Rattle.net_model.specs.declared.config.Zone.{Zone}
use Rattle.part_checks.specs.Parts.{held_by}
use Rattle.part_checks.proofs.left.left_server.Goals as goal

pub returns : goal.returns
returns c =
    let names = held_by c.args.sets.now in
    let left : c.retain.new.self.items ≡ filter (λ (zone : Zone). is_among names zone.origin) c.into_vec-zones.result.items = filter_same _ _ _ (λ x b f' k. search rules) _ _ c.retain.ensures.filtered in
    let all = c.from_vec.ensures ∙ (c.shrink_to_fit.ensures.items ∙ (left ∙ ap (filter (λ (zone : Zone). is_among names zone.origin)) c.into_vec-zones.ensures)) in
    ap (λ (zones : List Zone). record { name = c.args.server.name; zones = zones }) all
