use Rattle.std.proofs.Common.{Some, Ok, sym, ap, ◌∙◌, arith, ℕ, Result, subst, length, take}
use Rattle.std.specs.List.Sorted.{IsSearchInRange, IsBinarySearchResult}
use Rattle.dns_data.specs.Name.{name_cmp}
use Rattle.zone_lookup.proofs.FirstsByName.{found_by}
use Rattle.zone_lookup.proofs.named.nearest_or_fewer.Goals as goal

pub returns-in-Ok-clause-ok : goal.returns-in-Ok-clause-ok
returns-in-Ok-clause-ok g c =
    let name_of = g.T.Named.name_of in
    let items = c.args.items.now in
    let item = c.index-items-place.result in
    record {
      labels = c.args.count;
      within = omega arith;
      there =
          found_by name_of (take c.args.count c.args.name.now) items (Ok c.in-Ok.place) c.requires.ordered
          (subst (λ (place : Result ℕ ℕ). IsSearchInRange place (length items)) c.in-Ok.is c.requires.range)
          (subst (IsBinarySearchResult (λ item. name_cmp (name_of item) (take c.args.count c.args.name.now)) items) c.in-Ok.is c.requires.position) item
          ∙ ap (λ x. Some x) (sym c.index-items-place.is);
      none_longer = λ k many few. absurd (omega arith);
    }
