use Rattle.std.proofs.Common.{true, length, refl, sym, ap, ◌∙◌}
use Rattle.std.specs.List.{list_any}
use Rattle.std.proofs.lemmas.Option.{slice_get_read}
use Rattle.address_deps.specs.Giving.{is_marked, names_followed}
use Rattle.address_deps.specs.Addresses.{turn_gives}
use Rattle.address_deps.proofs.GivingNodes.{giving_node}
use Rattle.address_deps.proofs.Marks.{giving_more}
use Rattle.address_deps.proofs.giving.mark_node.Goals as goal

pub returns-clause-giving : goal.returns-clause-giving
returns-clause-giving c =
    let followed = names_followed c.args.hosts.now c.args.followed.now in
    let nodes = c.args.nodes.now in
    let marks = c.args.marks.now in
    let turns = c.index-nodes-at.result in
    giving_more followed nodes marks c.args.at c.requires.giving
    (giving_node followed nodes marks c.args.at turns c.requires.giving
    (slice_get_read nodes (length nodes) c.args.at turns refl c.requires.node c.index-nodes-at.is)
    (ap (list_any (turn_gives followed (is_marked marks) true)) (sym c.items.ensures) ∙ sym c.if-not-one_gives.ensures))
