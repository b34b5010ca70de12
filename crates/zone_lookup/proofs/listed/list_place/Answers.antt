use Rattle.std.proofs.Common.{List, ◌≡◌, ◌∷◌, ◌++◌, [], ℕ, Some, cond, ap, ◌∙◌, subst}
use Rattle.dns_data.specs.Name.{Labels, name_eq}
use Rattle.dns_data.specs.Listed.{places_of}
use Rattle.zone_lookup.proofs.TopsHolding.{listed_by, listed_one}
use Rattle.zone_lookup.proofs.listed.list_place.Goals as goal

pub returns : goal.returns
returns c =
    let name = c.args.name.now in
    let old = c.args.places.now in
    let mid = c.take_listed-listed.new.places in
    let new = c.insert.new.self in
    let behind : c.push.new.self ≡ places_of old name ++ c.args.place ∷ [] =
    c.in_ok-push.ensures.ok ∙ ap (λ (all : List ℕ). all ++ c.args.place ∷ []) c.take_listed-listed.ensures.taken in
    listed_one c.args.place name old mid new c.take_listed-listed.ensures.others
    (λ other.
    subst (λ (key : Labels). places_of new other ≡ cond (name_eq key other) c.push.new.self (places_of mid other)) c.in_ok-copy.ensures
    (listed_by c.in_ok-copy.field-0 other (Some c.push.new.self) mid new (c.in_ok-insert.ensures.updates.0 other))
    ∙ ap (λ (all : List ℕ). cond (name_eq name other) all (places_of mid other)) behind)
