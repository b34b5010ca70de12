use Rattle.std.proofs.Common.{List, All, map, sym, ap, ◌∙◌, subst}
use Rattle.dns_data.specs.declared.rdata.Rdata.{Rdata}
use Rattle.zone_tree.specs.OwnedData.{written_out}
use Rattle.zone_tree.specs.OwnedLists.{part_of, set_of, IsPartOf}
use Rattle.zone_tree.specs.Records.{OwnedRecords, data_in}
use Rattle.zone_tree.specs.declared.owned_lists.RecordSet.{RecordSet}
use Rattle.zone_tree.proofs.owned_data.Owned.set.Goals as goal

pub data_in-requires : goal.data_in-requires
data_in-requires c =
    subst (λ (several : List Rdata). All (λ set. IsPartOf several set.several) c.items_of-sets.result.now) (sym c.as_slice-in-Whole.ensures.value)
    (subst (All (λ set. IsPartOf c.self.inside.lists.now.several.items set.several))
    (sym (c.items_of-sets.ensures ∙ ap (λ (sets : List RecordSet). part_of sets c.parts_at-own.result.now.sets) c.as_slice.ensures.value))
    c.parts_at-own.ensures.within.several)

pub returns-in-Whole : goal.returns-in-Whole
returns-in-Whole c =
    c.data_in.ensures
    ∙ ap (λ (several : List Rdata). data_in (map (set_of several) c.items_of-sets.result.now) c.args.t) c.as_slice-in-Whole.ensures.value
    ∙ ap (λ (sets : List RecordSet). data_in (map (set_of c.self.inside.lists.now.several.items) sets) c.args.t)
    (c.items_of-sets.ensures ∙ ap (λ (sets : List RecordSet). part_of sets c.parts_at-own.result.now.sets) c.as_slice.ensures.value)
    ∙ ap (λ (records : OwnedRecords). data_in records.sets c.args.t)
    (c.parts_at-own.ensures.owned ∙ sym (ap (written_out c.self.inside.lists.now) c.in-Whole.is) ∙ c.self.view_is)
