-- The zone cuts among the existing names of a zone are those among its owners.
use Rattle.std.proofs.Common.{◌≡◌, true, ◌&&◌, nat_lt, List, [], map, length, Contains, AllPairs, Some, filter, Less, refl, sym, subst}
use Rattle.std.specs.Prelude.{◌↔◌}
use Rattle.std.specs.List.{list_any}
use Rattle.std.proofs.lemmas.Bool.{and_parts, and_from, or_right}
use Rattle.std.proofs.lemmas.List.Kept.{AllPairs-filter}
use Rattle.dns_data.specs.Name.{Labels, is_prefix, name_cmp, name_eq}
use Rattle.dns_data.specs.Rdata.{has_type}
use Rattle.dns_data.specs.declared.rdata.Rr.{Rr}
use Rattle.dns_data.specs.declared.rr_type.RrType.TheVariants as types
use Rattle.dns_data.proofs.Membership.{filter_has, from_filter, from_map, map_has}
use Rattle.dns_data.proofs.NameFronts.{begins_itself}
use Rattle.dns_data.proofs.NameOrder.{names_total, pairs_from_rising}
use Rattle.dns_data.proofs.Names.{name_eq_decides, same_names}
use Rattle.dns_data.proofs.OrderedLists.{same_rising}
use Rattle.dns_data.proofs.Searches.{any_has, found_there, from_any}
use Rattle.net_model.specs.declared.config.Zone.{Zone}
use Rattle.net_model.specs.Lookup.{Deciding, ByCut, ByRedirection, ByRecords, ByNothing, deciding, dname_owner, zone_cut}
use Rattle.net_model.specs.Order.{in_order}
use Rattle.net_model.specs.Prefix.{prefixes}
use Rattle.net_model.specs.Zone.{exists_in, is_of, owns}
use Rattle.net_model.proofs.ItemsInOrder.{from_order, order_has, order_rises}
use Rattle.net_model.proofs.StepBounds.{is_the_cut}
use Rattle.zone_cuts.specs.Cuts.{cuts, cuts_at, is_cut}

module _ (zone : Zone) where
  -- the owners of a zone's records
  abbrev owners : List Labels
  owners = map (λ rr. rr.owner) zone.rrs

  -- a cut owns an NS record
  cut_owns : (name : Labels) → cuts_at name (deciding zone name) ≡ true → owns zone name types.Ns ≡ true
  cut_owns name is = by (deciding zone name) refl is where
    by : (what : Deciding) → deciding zone name ≡ what → cuts_at name what ≡ true → owns zone name types.Ns ≡ true
    by (ByCut cut) e same =
        let at : zone_cut zone name ≡ Some cut = is_the_cut zone name types.A cut [] (zone_cut zone name) (dname_owner zone name) e in
        let both = found_there (λ (above : Labels). nat_lt (length zone.origin) (length above) && owns zone above types.Ns) (prefixes name) cut at in
        subst (λ (n : Labels). owns zone n types.Ns ≡ true) ((name_eq_decides cut name).0 same)
        (and_parts (nat_lt (length zone.origin) (length cut)) (owns zone cut types.Ns) both.1).1
    by (ByRedirection owner target) e same = cc
    by (ByRecords owner) e same = cc
    by ByNothing e same = cc

  -- so it is an owner
  cut_is_owner : (name : Labels) → is_cut zone name ≡ true → Contains owners name
  cut_is_owner name is =
      let parts = and_parts (is_prefix zone.origin name) (cuts_at name (deciding zone name)) is in
      let found = from_any (is_of name types.Ns) zone.rrs (cut_owns name parts.1) in
      let both = and_parts (name_eq found.0.owner name) (has_type types.Ns found.0.rdata) found.2 in
      subst (Contains owners) ((name_eq_decides found.0.owner name).0 both.0) (map_has (λ (rr : Rr). rr.owner) zone.rrs found.0 found.1)

  -- an owner that is a cut exists
  owner_exists : (name : Labels) → Contains owners name → is_cut zone name ≡ true → exists_in zone name ≡ true
  owner_exists name has is =
      let parts = and_parts (is_prefix zone.origin name) (cuts_at name (deciding zone name)) is in
      let found = from_map (λ (rr : Rr). rr.owner) zone.rrs name has in
      or_right (name_eq name zone.origin) (is_prefix zone.origin name && list_any (λ rr. is_prefix name rr.owner) zone.rrs)
      (and_from (is_prefix zone.origin name) (list_any (λ rr. is_prefix name rr.owner) zone.rrs) parts.0
      (any_has (λ (rr : Rr). is_prefix name rr.owner) zone.rrs found.0 found.1 (subst (λ (n : Labels). is_prefix name n ≡ true) (sym found.2) (begins_itself name))))

  -- the cuts among the existing names in order are the zone's cuts
  pub cuts_among : (names : List Labels) → ((name : Labels) → Contains names name ↔ (exists_in zone name ≡ true))
      → AllPairs (λ a b. name_cmp a b ≡ Less) names → filter (is_cut zone) names ≡ cuts zone
  cuts_among names all once =
      same_rising name_cmp names_total (filter (is_cut zone) names) (cuts zone)
      (AllPairs-filter (λ a b. name_cmp a b ≡ Less) (is_cut zone) names once)
      (AllPairs-filter (λ a b. name_cmp a b ≡ Less) (is_cut zone) (in_order name_cmp owners) (pairs_from_rising (in_order name_cmp owners) (order_rises owners)))
      (λ name has.
      let both = from_filter (is_cut zone) names name has in
      filter_has (is_cut zone) (in_order name_cmp owners) name (order_has name_cmp same_names owners name (cut_is_owner name both.1)) both.1)
      (λ name has.
      let both = from_filter (is_cut zone) (in_order name_cmp owners) name has in
      filter_has (is_cut zone) names name ((all name).1 (owner_exists name (from_order name_cmp owners name both.0) both.1)) both.1)
