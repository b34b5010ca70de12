-- The laws of the order of names.
use Rattle.std.specs.Prelude.{Some, refl}
use Rattle.std.proofs.Common.{subst}
use Rattle.std.specs.Cmp.{IsPartialOrder, Agrees}
use Rattle.std.specs.Cmp.Lexicographic.{lists_po, lists_agrees, slice_partial_cmp, texts_po}
use Rattle.dns_data.specs.Label.{label_cmp}
use Rattle.dns_data.specs.Name.{name_eq, name_cmp}

-- names with their order are a partial order
pub names_po : IsPartialOrder name_eq (λ a b. Some (name_cmp a b))
names_po =
    let agrees : Agrees (slice_partial_cmp (λ a b. Some (label_cmp a b))) name_cmp = lists_agrees (λ a b. refl) in
    subst (IsPartialOrder name_eq) (λ i a b. agrees a b i) (lists_po texts_po)
