use Rattle.std.proofs.Common.{List, map, sym, ap, ◌∙◌}
use Rattle.zone_tree.specs.OwnedData.{written_out}
use Rattle.zone_tree.specs.OwnedLists.{part_of, set_of}
use Rattle.zone_tree.specs.Records.{OwnedRecords, first_in}
use Rattle.zone_tree.specs.declared.owned_lists.RecordSet.{RecordSet}
use Rattle.zone_tree.proofs.owned_data.Owned.first.Goals as goal

pub returns-in-Whole : goal.returns-in-Whole
returns-in-Whole c =
    c.first_in.ensures c.self.inside.lists.now.several.items
    ∙ ap (λ (sets : List RecordSet). first_in (map (set_of c.self.inside.lists.now.several.items) sets) c.args.t)
    (c.items_of.ensures ∙ ap (λ (sets : List RecordSet). part_of sets c.parts_at-own.result.now.sets) c.as_slice.ensures.value)
    ∙ ap (λ (records : OwnedRecords). first_in records.sets c.args.t)
    (c.parts_at-own.ensures.owned ∙ sym (ap (written_out c.self.inside.lists.now) c.in-Whole.is) ∙ c.self.view_is)
