use Rattle.std.proofs.Common.{◌||◌, ◌&&◌, ap, sym, ◌∙◌}
use Rattle.std.specs.Cmp.Lexicographic.{lists_ties, texts_ties, lists_total, nat_list_cmp_total}
use Rattle.std.proofs.lemmas.Bool.{and_from}
use Rattle.dns_data.specs.Label.{label_cmp}
use Rattle.dns_data.specs.Name.{name_eq, name_cmp}
use Rattle.zone_rules.specs.Before.{has_name}
use Rattle.dns_data.proofs.SeenItems.{has-added}
use Rattle.zone_rules.proofs.Sets.{and-yes}
use Rattle.zone_rules.proofs.rules.put_if.Goals as goal

pub returns-in_ok-insert : goal.returns-in_ok-insert
returns-in_ok-insert c = λ query.
    has-added name_cmp name_eq (lists_total nat_list_cmp_total) (lists_ties label_cmp texts_ties) c.args.names.now c.insert.new.self c.args.name c.in_ok-insert.ensures.updates query
    ∙ ap (λ b. has_name c.args.names.now query || b) (sym (and-yes (name_eq query c.args.name.now) (c.args.first && c.args.second) (and_from c.args.first c.args.second c.if-first.true c.if-second.true)))
