use Rattle.std.proofs.Common.{List, Bor, ap, ◌∙◌}
use Rattle.dns_data.specs.Name.{Labels}
use Rattle.zone_tree.specs.OwnedLists.{part_of}
use Rattle.zone_tree.specs.Records.{OwnedRecords}
use Rattle.zone_tree.proofs.owned_data.Owned.servers.Goals as goal

pub returns : goal.returns
returns c =
    c.items_of.ensures
    ∙ ap (λ (servers : List (Bor Labels)). part_of servers c.servers_part.result) c.as_slice.ensures.value
    ∙ c.servers_part.ensures.servers
    ∙ ap (λ (records : OwnedRecords). records.servers) c.self.view_is
