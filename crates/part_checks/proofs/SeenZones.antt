-- What the checks of a zone tell of it.
use Rattle.std.proofs.Common.{◌≡◌, ◌∙◌, true, false, List, map, All, Contains, Some, None, sym, ap, subst, inl, inr, true≢false}
use Rattle.std.specs.Prelude.{not}
use Rattle.std.proofs.lemmas.List.Elements.{All-contains}
use Rattle.dns_data.specs.Name.{Labels, is_among}
use Rattle.dns_data.specs.declared.rdata.Rr.{Rr}
use Rattle.dns_data.proofs.Membership.{all_from_contains, first_or_later, from_map, has_later, map_has}
use Rattle.label_graph.specs.Graphs.{SomeItem}
use Rattle.net_model.specs.Zone.{exists_in}
use Rattle.net_model.specs.declared.config.Zone.{Zone}
use Rattle.part_laws.specs.Part.{restricted_zone}
use Rattle.part_names.specs.declared.names.PartNames.{PartNames}
use Rattle.part_checks.specs.Outside.{first_outside, is_outside, parent, zone_names, IsLasting, IsPassed, Leaves}
use Rattle.part_checks.specs.Parts.{held_by}
use Rattle.part_checks.specs.Rules.{Refutes}
use Rattle.part_checks.specs.Taking.{FitsZone, IsSeen}
use Rattle.part_checks.specs.declared.fault.PartFault.{PartFault}
use Rattle.part_checks.specs.declared.fault.PartRule.TheVariants.{Exists}
use Rattle.part_checks.proofs.Prefixes.{held_fails}
use Rattle.part_checks.proofs.Refusals.{refuted_by}

module _ (names : PartNames) (zone : Zone) where
  -- where a name of a zone leaves the held ones, an owner does, if the origin is held
  owner_leaves : is_among (held_by names) zone.origin ≡ true → (name : Labels) → Leaves names (zone_names zone) name
      → SomeItem (λ (rr : Rr). first_outside names rr.owner ≡ Some name) zone.rrs
  owner_leaves held name (start, among, found) =
      elim (first_or_later zone.origin (map (λ (rr : Rr). rr.owner) zone.rrs) start among) [
        | inl origin ↦ (
            let clash : None ≡ Some name = held_fails names.held (is_outside names) zone.origin (λ above there. ap not there) held ∙ (ap (first_outside names) origin ∙ found) in
            absurd cc)
        | inr later ↦ (
            let (rr, there, is) = from_map (λ (r : Rr). r.owner) zone.rrs start later in
            (rr, there, ap (first_outside names) is ∙ found))
      ]

  -- a zone whose names are passed is seen, if the names above those outside exist in what is left of it
  pub seen_lasting : (left : Zone) (fronts : List Labels) → left ≡ restricted_zone (held_by names) zone → All (IsPassed names fronts) (zone_names zone)
      → All (λ (name : Labels). exists_in left (parent name) ≡ true) fronts → IsSeen names fronts zone
  seen_lasting left fronts is passed lasting = record {
    passed = passed;
    lasting = λ held. all_from_contains (λ (rr : Rr). IsLasting names (restricted_zone (held_by names) zone) rr.owner) zone.rrs (λ rr has front found.
        let there = has_later zone.origin (map (λ (r : Rr). r.owner) zone.rrs) rr.owner (map_has (λ (r : Rr). r.owner) zone.rrs rr has) in
        let one = (All-contains (IsPassed names fronts) (zone_names zone) rr.owner passed there).there front found in
        subst (λ (z : Zone). exists_in z (parent front) ≡ true) is
        (subst (λ (n : Labels). exists_in left n ≡ true) one.beside (All-contains (λ (name : Labels). exists_in left (parent name) ≡ true) fronts one.name lasting one.there)));
  }

  -- nothing is asked of what is left of it where its origin isn't held
  pub seen_apart : (fronts : List Labels) → is_among (held_by names) zone.origin ≡ false → All (IsPassed names fronts) (zone_names zone) → IsSeen names fronts zone
  seen_apart fronts out passed = record { passed = passed; lasting = λ held. absurd (true≢false (sym held ∙ out)) }

  -- a zone doesn't fit by a rule by which the name above one outside doesn't exist in what is left
  pub lasting_refused : (left : Zone) (fronts : List Labels) (fault : PartFault) → is_among (held_by names) zone.origin ≡ true → left ≡ restricted_zone (held_by names) zone
      → ((name : Labels) → Contains fronts name → Leaves names (zone_names zone) name)
      → Refutes (λ rule. All (λ (name : Labels). Exists ≡ rule → exists_in left (parent name) ≡ true) fronts) fault → Refutes (λ rule. FitsZone rule names zone) fault
  lasting_refused left fronts fault held is leaves =
      refuted_by (λ rule. All (λ (name : Labels). Exists ≡ rule → exists_in left (parent name) ≡ true) fronts) (λ rule. FitsZone rule names zone) fault
      (λ rule fits. all_from_contains (λ (name : Labels). Exists ≡ rule → exists_in left (parent name) ≡ true) fronts (λ name has same.
      let (rr, there, found) = owner_leaves held name (leaves name has) in
      subst (λ (z : Zone). exists_in z (parent name) ≡ true) (sym is)
      (All-contains (λ (r : Rr). Exists ≡ rule → IsLasting names (restricted_zone (held_by names) zone) r.owner) zone.rrs rr (fits.lasting held) there same name found)))
