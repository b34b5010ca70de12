use Rattle.std.proofs.Common.{◌∙◌, List, ap}
use Rattle.dns_data.specs.Name.{Labels, is_among}
use Rattle.part_laws.specs.Part.{with_prefixes}
use Rattle.own_names.proofs.HeldSets.{same_among}
use Rattle.own_names.proofs.held.HeldNames.build.Goals as goal

pub invariant_of-result : goal.invariant_of-result
invariant_of-result c = λ name.
    c.in_ok-held.ensures name
    ∙ (ap (λ (l : List Labels). is_among l name) c.as_slice.ensures.value
    ∙ (same_among c.in_ok-fronts.fronts.items (with_prefixes c.items.result.now) c.in_ok-fronts.ensures name
    ∙ ap (λ (l : List Labels). is_among (with_prefixes l) name) c.items.ensures))
