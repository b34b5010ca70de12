use Rattle.std.proofs.Common.{◌≡◌, take, sym, ◌∙◌, subst, arith}
use Rattle.std.specs.List.Sorted.{IsBinarySearchResult}
use Rattle.std.proofs.lemmas.List.{take_all}
use Rattle.dns_data.specs.Name.{Labels, name_cmp}
use Rattle.zone_lookup.proofs.named.nearest_item.Goals as goal

-- the whole name is its front with as many labels as it has
pub nearest_or_fewer-requires-clause-position : goal.nearest_or_fewer-requires-clause-position
nearest_or_fewer-requires-clause-position g c =
    let name = c.args.name.now in
    let whole : take c.len-count.result name ≡ name = take_all c.len-count.result name (omega (arith, c.len-count.ensures.value)) in
    subst (λ (n : Labels). IsBinarySearchResult (λ item. name_cmp (g.T.Named.name_of item) n) c.args.items.now c.place_near-place.result)
    (c.labels.ensures.same ∙ sym whole) c.place_near-place.ensures.position
