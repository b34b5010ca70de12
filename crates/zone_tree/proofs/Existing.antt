-- The names of a tree are those that exist in its zone.
use Rattle.std.proofs.Common.{◌≡◌, true, ◌&&◌, List, [], ◌∷◌, ◌++◌, ◌↔◌, map, get_or, Contains, IsSorted, sym, refl, ap, ◌∙◌, subst, inl, inr, arith}
use Rattle.std.specs.List.{list_any}
use Rattle.std.proofs.lemmas.List.Elements.{Contains-get_or}
use Rattle.std.proofs.lemmas.Bool.{and_parts, and_from, or_cases, or_left, or_right}
use Rattle.dns_data.specs.Name.{Labels, name_eq, name_cmp, is_prefix}
use Rattle.dns_data.specs.declared.rdata.Rr.{Rr}
use Rattle.net_model.proofs.Descent.{prefix_exists, prefix_of_prefix}
use Rattle.net_model.specs.declared.config.Zone.{Zone}
use Rattle.net_model.specs.Zone.{exists_in}
use Rattle.zone_tree.specs.Names.{tree_after, AreExisting}
use Rattle.zone_tree.specs.Owners.{AreByOwner}
use Rattle.zone_tree.specs.Runs.{owner_of}
use Rattle.zone_tree.specs.declared.runs.KeyedRun.{KeyedRun}
use Rattle.dns_data.proofs.Membership.{has_first, has_later, first_or_later, map_has, from_map}
use Rattle.dns_data.proofs.NameFronts.{Begins, is_prefix_tells, is_prefix_told, begins_itself, two_fronts}
use Rattle.dns_data.proofs.NameOrder.{Before, before_up_to, names_total, pairs_from_rising}
use Rattle.dns_data.proofs.Names.{name_eq_decides}
use Rattle.dns_data.proofs.OrderedLists.{never_before_itself}
use Rattle.dns_data.proofs.Searches.{from_any, any_has}
use Rattle.name_table.specs.Table.{IsTable}
use Rattle.name_table.proofs.Tables.{begins_up_to}
use Rattle.zone_tree.proofs.SortedTree.{InOrder, in_order, tree_stands_after, rising_after, tree_after_has, from_tree_after, both_up_to}

-- names that begin each other are equal
pub begin_each_other : (a b : Labels) → Begins a b → Begins b a → a ≡ b
begin_each_other a b there back = both_up_to a b (begins_up_to a b there) (begins_up_to b a back)

module _ (zone : Zone) (owners : List Labels)
    (owned : (name : Labels) → Contains owners name ↔ (Contains (map (λ rr. rr.owner) zone.rrs) name × (is_prefix zone.origin name ≡ true)))
    (sorted : IsSorted name_cmp owners) where
  below : (name : Labels) → Contains owners name → Begins zone.origin name
  below name has = is_prefix_tells zone.origin name ((owned name).0 has).1

  order : InOrder zone.origin owners
  order = in_order zone.origin owners sorted below

  abbrev names : List Labels
  names = zone.origin ∷ tree_after zone.origin owners

  -- a name of the tree exists
  exists_there : (name : Labels) → Contains names name → exists_in zone name ≡ true
  exists_there name has =
      elim (first_or_later zone.origin (tree_after zone.origin owners) name has) [
        | inl first ↦ or_left (name_eq name zone.origin) _ ((name_eq_decides name zone.origin).1 (sym first))
        | inr later ↦ (
            let found = from_tree_after zone.origin owners name later in
            let stands : Before zone.origin name = tree_stands_after zone.origin owners name order later in
            or_right (name_eq name zone.origin) (is_prefix zone.origin name && list_any (λ rr. is_prefix name rr.owner) zone.rrs)
            (and_from (is_prefix zone.origin name) (list_any (λ rr. is_prefix name rr.owner) zone.rrs)
            (at_or_below stands (below found.0 found.1) found.2)
            (found_below found.0 ((owned found.0).0 found.1).0 found.2)))
      ]
    where
      found_below : (owner : Labels) → Contains (map (λ (rr : Rr). rr.owner) zone.rrs) owner → Begins name owner → list_any (λ rr. is_prefix name rr.owner) zone.rrs ≡ true
      found_below owner has begins =
          let found = from_map (λ (rr : Rr). rr.owner) zone.rrs owner has in
          any_has (λ (rr : Rr). is_prefix name rr.owner) zone.rrs found.0 found.1
          (is_prefix_told name found.0.owner (subst (Begins name) (sym found.2) begins))

      at_or_below : {owner : Labels} → Before zone.origin name → Begins zone.origin owner → Begins name owner → is_prefix zone.origin name ≡ true
      at_or_below {owner} stands (x, e) (y, f) =
          elim (two_fronts zone.origin x name y (e ∙ sym f)) [
            | inl down ↦ is_prefix_told zone.origin name down
            | inr up ↦ absurd (never_before_itself name_cmp names_total zone.origin
                (before_up_to zone.origin name zone.origin stands (begins_up_to name zone.origin up)))
          ]

  -- an existing name is in the tree
  there_if_exists : (name : Labels) → exists_in zone name ≡ true → Contains names name
  there_if_exists name exists =
      elim (or_cases (name_eq name zone.origin) (is_prefix zone.origin name && list_any (λ rr. is_prefix name rr.owner) zone.rrs) exists) [
        | inl origin ↦ at_origin (sym ((name_eq_decides name zone.origin).0 origin))
        | inr beneath ↦ (
            let parts = and_parts (is_prefix zone.origin name) (list_any (λ rr. is_prefix name rr.owner) zone.rrs) beneath in
            let found = from_any (λ (rr : Rr). is_prefix name rr.owner) zone.rrs parts.1 in
            let begins = is_prefix_tells name found.0.owner found.2 in
            let down = is_prefix_tells zone.origin name parts.0 in
            let all : Begins zone.origin found.0.owner = prefix_of_prefix zone.origin name found.0.owner down begins in
            elim (tree_after_has zone.origin owners found.0.owner name
            ((owned found.0.owner).1 (map_has (λ (rr : Rr). rr.owner) zone.rrs found.0 found.1, is_prefix_told zone.origin found.0.owner all))
            begins) [
              | inl up ↦ at_origin (begin_each_other zone.origin name down up)
              | inr later ↦ has_later zone.origin (tree_after zone.origin owners) name later
            ])
      ]
    where
      at_origin : zone.origin ≡ name → Contains names name
      at_origin e = subst (Contains names) e (has_first zone.origin (tree_after zone.origin owners))

  existing : AreExisting zone names
  existing = record {
    ordered = pairs_from_rising names (λ later has. tree_stands_after zone.origin owners later order has, rising_after zone.origin owners order);
    some = omega arith;
    origin_first = refl;
    all = λ name. (exists_there name, there_if_exists name);
  }

-- the origin, and what the owners of the zone's runs in order add
pub are_existing : (zone : Zone) (runs : List KeyedRun) → AreByOwner zone runs → AreExisting zone (zone.origin ∷ tree_after zone.origin (map owner_of runs))
are_existing zone runs are = existing zone (map owner_of runs) are.owners are.sorted

-- an existing name is at or below the origin
pub existing_within : (zone : Zone) (name : Labels) → exists_in zone name ≡ true → is_prefix zone.origin name ≡ true
existing_within zone name exists =
    elim (or_cases (name_eq name zone.origin) (is_prefix zone.origin name && list_any (λ rr. is_prefix name rr.owner) zone.rrs) exists) [
      | inl origin ↦ (
          let same : name ≡ zone.origin = (name_eq_decides name zone.origin).0 origin in
          subst (λ (x : Labels). is_prefix zone.origin x ≡ true) (sym same) (begins_itself zone.origin))
      | inr beneath ↦ (and_parts (is_prefix zone.origin name) (list_any (λ rr. is_prefix name rr.owner) zone.rrs) beneath).0
    ]

-- the existing names are a table: with each that has a label below the origin, the name one label above it exists
pub existing_table : (zone : Zone) (names : List Labels) → AreExisting zone names → IsTable names
existing_table zone names existing =
    record {
      ordered = existing.ordered;
      some = existing.some;
      below = λ k within.
          ap (λ (origin : Labels). is_prefix origin (get_or names k [])) existing.origin_first
          ∙ existing_within zone (get_or names k []) ((existing.all (get_or names k [])).0 (Contains-get_or names k [] within));
      parents = λ above label inside has.
          (existing.all above).1
          (prefix_exists zone above (label ∷ [])
          (ap (λ (origin : Labels). is_prefix origin above) (sym existing.origin_first) ∙ inside)
          ((existing.all (above ++ label ∷ [])).0 has));
    }

-- an owner at or below the origin exists
pub owner_exists : (zone : Zone) (rr : Rr) → Contains zone.rrs rr → is_prefix zone.origin rr.owner ≡ true → exists_in zone rr.owner ≡ true
owner_exists zone rr has within =
    or_right (name_eq rr.owner zone.origin) (is_prefix zone.origin rr.owner && list_any (λ one. is_prefix rr.owner one.owner) zone.rrs)
    (and_from (is_prefix zone.origin rr.owner) (list_any (λ one. is_prefix rr.owner one.owner) zone.rrs) within
    (any_has (λ (one : Rr). is_prefix rr.owner one.owner) zone.rrs rr has (begins_itself rr.owner)))

-- the owner of each record at or below the origin is among the names that exist in the zone
pub owners_among : (zone : Zone) (runs : List KeyedRun) (all : List Labels) → AreByOwner zone runs → AreExisting zone all
    → (owner : Labels) → Contains (map owner_of runs) owner → Contains all owner
owners_among zone runs all are there owner has =
    let parts = (are.owners owner).0 has in
    let (rr, among, is) = from_map (λ (one : Rr). one.owner) zone.rrs owner parts.0 in
    subst (Contains all) is
    ((there.all rr.owner).1 (owner_exists zone rr among (subst (λ (x : Labels). is_prefix zone.origin x ≡ true) (sym is) parts.1)))
