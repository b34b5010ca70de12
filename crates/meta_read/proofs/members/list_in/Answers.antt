use Rattle.std.proofs.Common.{map, Some, sym, ap, ◌∙◌}
use Rattle.std.specs.Option.{option_map}
use Rattle.serde_json.specs.View.{view}
use Rattle.meta_read.specs.Members.{values_of, list_in}
use Rattle.meta_read.proofs.Values.{values_of-items_of}
use Rattle.meta_read.proofs.members.list_in.Goals as goal

pub returns : goal.returns
returns c =
    sym (ap (λ member. list_in (option_map (λ value. view value.now) member)) c.in_ok-member.was
    ∙ (ap (option_map values_of) (sym c.in_ok-as_array.ensures)
    ∙ (ap Some (values_of-items_of (map view c.in_ok-as_array.field-0.now.items))
    ∙ ap (λ values. Some (map view values)) (sym c.as_slice.ensures.value))))
