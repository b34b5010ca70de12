use Rattle.std.proofs.Common.{◌≡◌, ℕ, ◌<◌, ◌&&◌, List, [], length, get_or, nat_lt, true, sym, refl, ap, ◌∙◌, subst, arith}
use Rattle.std.proofs.lemmas.List.{get_or_default}
use Rattle.dns_data.specs.Name.{Labels, is_prefix}
use Rattle.dns_data.specs.TypeSet.{has_bit}
use Rattle.dns_data.specs.declared.rr_type.RrType.{RrType}
use Rattle.net_model.specs.declared.config.Zone.{Zone}
use Rattle.net_model.specs.Zone.{owns}
use Rattle.zone_tree.specs.FirstDecider.{decides_below, IsFirstDecider}
use Rattle.zone_tree.specs.Records.{OwnedRecords, IsTree}
use Rattle.zone_tree.proofs.NameData.{owned}
use Rattle.zone_tree.proofs.NextDeciders.{inside_at, as_before, as_itself, as_origin}
use Rattle.zone_tree.proofs.first_deciders.first_decider_at.Goals as goal

-- the types at a place are those that the name there owns
types_at : (zone : Zone) (names : List Labels) (records : List OwnedRecords) → IsTree zone names records → (k : ℕ) (d : OwnedRecords) → k < length names
    → (rtype : RrType) → has_bit (get_or records k d).types rtype ≡ owns zone (get_or names k []) rtype
types_at zone names records tree k d below rtype = (tree.each k d below).types rtype ∙ sym (owned (get_or names k []) rtype zone.rrs)

-- an item, by its place
item : (names : List Labels) (k place : ℕ) (name : Labels) → k < length names → place ≡ k → name ≡ get_or names place name → get_or names k [] ≡ name
item names k place name below here is = get_or_default names k [] name below ∙ ap (λ (n : ℕ). get_or names n name) (sym here) ∙ sym is

pub at-requires : goal.at-requires
at-requires c = omega (arith, c.requires.before.within, c.requires.tree.many, c.place-2.ensures.value)

pub at-requires-2 : goal.at-requires-2
at-requires-2 c = omega (arith, c.requires.within, c.requires.tree.many)

pub decides_at-requires-clause-inside : goal.decides_at-requires-clause-inside
decides_at-requires-clause-inside c =
    let zone = c.args.zone.now in
    let names = c.args.names.now in
    let above = item names c.args.before c.place.result c.index-names-place-2.result c.requires.before.within c.place.ensures.value c.index-names-place-2.is in
    subst (λ (x : Labels). is_prefix zone.origin x ≡ true) above (inside_at zone names c.requires.tree.existing c.args.before c.requires.before.within)

pub decides_at-requires-clause-types : goal.decides_at-requires-clause-types
decides_at-requires-clause-types c = λ rtype.
    let zone = c.args.zone.now in
    let names = c.args.names.now in
    let above = item names c.args.before c.place.result c.index-names-place-2.result c.requires.before.within c.place.ensures.value c.index-names-place-2.is in
    c.types.ensures rtype
    ∙ ap (λ (records : OwnedRecords). has_bit records.types rtype) (c.at.ensures c.at.result)
    ∙ ap (λ (n : ℕ). has_bit (get_or c.args.records.now n c.at.result).types rtype) c.place-2.ensures.value
    ∙ types_at zone names c.args.records.now c.requires.tree c.args.before c.at.result c.requires.before.within rtype
    ∙ ap (λ (x : Labels). owns zone x rtype) above

pub returns-then-decides_at : goal.returns-then-decides_at
returns-then-decides_at c =
    let zone = c.args.zone.now in
    let names = c.args.names.now in
    let above = item names c.args.before c.place.result c.index-names-place-2.result c.requires.before.within c.place.ensures.value c.index-names-place-2.is in
    let name = item names c.args.place c.args.place c.index-names-place.result c.requires.within refl c.index-names-place.is in
    as_before zone names c.requires.tree.existing c.args.place c.args.before c.requires.within c.requires.before
    (ap (λ (x : Labels). nat_lt (length x) (length (get_or names c.args.place [])) && decides_below zone x) above
    ∙ ap (λ (x : Labels). nat_lt (length c.index-names-place-2.result) (length x) && decides_below zone c.index-names-place-2.result) name
    ∙ sym c.decides_at.ensures ∙ c.if-decides_at.true)

pub decides_below-requires-clause-inside : goal.decides_below-requires-clause-inside
decides_below-requires-clause-inside c =
    let zone = c.args.zone.now in
    let names = c.args.names.now in
    let name = item names c.args.place c.args.place c.index-names-place.result c.requires.within refl c.index-names-place.is in
    subst (λ (x : Labels). is_prefix zone.origin x ≡ true) name (inside_at zone names c.requires.tree.existing c.args.place c.requires.within)

pub decides_below-requires-clause-types : goal.decides_below-requires-clause-types
decides_below-requires-clause-types c = λ rtype.
    let zone = c.args.zone.now in
    let names = c.args.names.now in
    let name = item names c.args.place c.args.place c.index-names-place.result c.requires.within refl c.index-names-place.is in
    c.types-2.ensures rtype
    ∙ ap (λ (records : OwnedRecords). has_bit records.types rtype) (c.at-2.ensures c.at-2.result)
    ∙ types_at zone names c.args.records.now c.requires.tree c.args.place c.at-2.result c.requires.within rtype
    ∙ ap (λ (x : Labels). owns zone x rtype) name

pub returns-then-decides_below : goal.returns-then-decides_below
returns-then-decides_below c =
    let zone = c.args.zone.now in
    let names = c.args.names.now in
    let above = item names c.args.before c.place.result c.index-names-place-2.result c.requires.before.within c.place.ensures.value c.index-names-place-2.is in
    let name = item names c.args.place c.args.place c.index-names-place.result c.requires.within refl c.index-names-place.is in
    subst (λ (place : ℕ). IsFirstDecider zone names (get_or names c.args.place []) place) (sym c.at-then-decides_below.ensures)
    (as_itself zone names c.requires.tree.existing c.args.place c.args.before c.requires.within c.requires.before
    (ap (λ (x : Labels). nat_lt (length x) (length (get_or names c.args.place [])) && decides_below zone x) above
    ∙ ap (λ (x : Labels). nat_lt (length c.index-names-place-2.result) (length x) && decides_below zone c.index-names-place-2.result) name
    ∙ sym c.decides_at.ensures ∙ c.if-decides_at.false)
    (ap (decides_below zone) name ∙ sym c.decides_below.ensures ∙ c.if-decides_below.true))

pub returns : goal.returns
returns c =
    let zone = c.args.zone.now in
    let names = c.args.names.now in
    let above = item names c.args.before c.place.result c.index-names-place-2.result c.requires.before.within c.place.ensures.value c.index-names-place-2.is in
    let name = item names c.args.place c.args.place c.index-names-place.result c.requires.within refl c.index-names-place.is in
    subst (λ (place : ℕ). IsFirstDecider zone names (get_or names c.args.place []) place) (sym c.at-3.ensures)
    (as_origin zone names c.requires.tree.existing c.args.place c.args.before c.requires.within c.requires.before
    (ap (λ (x : Labels). nat_lt (length x) (length (get_or names c.args.place [])) && decides_below zone x) above
    ∙ ap (λ (x : Labels). nat_lt (length c.index-names-place-2.result) (length x) && decides_below zone c.index-names-place-2.result) name
    ∙ sym c.decides_at.ensures ∙ c.if-decides_at.false)
    (ap (decides_below zone) name ∙ sym c.decides_below.ensures ∙ c.if-decides_below.false))
