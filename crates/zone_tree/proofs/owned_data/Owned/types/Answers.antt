use Rattle.std.proofs.Common.{sym, ap, ◌∙◌}
use Rattle.dns_data.specs.TypeSet.{has_bit}
use Rattle.zone_tree.specs.OwnedData.{written_out}
use Rattle.zone_tree.specs.Records.{OwnedRecords}
use Rattle.zone_tree.proofs.owned_data.Owned.types.Goals as goal

pub returns-in-Whole : goal.returns-in-Whole
returns-in-Whole c = λ rtype.
    ap (λ (records : OwnedRecords). has_bit records.types rtype)
    (c.parts_at.ensures.owned ∙ sym (ap (written_out c.self.inside.lists.now) c.in-Whole.is) ∙ c.self.view_is)
