-- The region with the longest origin at or above a name: there its nearest origin is.
use Rattle.std.proofs.Common.{◌≡◌, ◌<◌, ◌≤◌, true, List, length, take, drop, ◌++◌, Option, Some, None, is_some, true≢false, refl, sym, ap, ◌∙◌, subst, arith, length-append}
use Rattle.std.specs.Prelude.{Contains, option_and_then}
use Rattle.std.proofs.lemmas.List.{length-take-le, take-append-drop, take_at}
use Rattle.dns_data.specs.Name.{Labels, is_prefix, name_eq}
use Rattle.dns_data.proofs.Membership.{each_along, from_map}
use Rattle.dns_data.proofs.NameFronts.{is_prefix_tells, is_prefix_told}
use Rattle.dns_data.proofs.Names.{name_eq_decides}
use Rattle.dns_data.proofs.Searches.{find_some, found_there}
use Rattle.net_model.specs.declared.deps.Deps.{Deps}
use Rattle.net_model.specs.Nearest.{held_zone, server_named, zone_with_origin}
use Rattle.net_model.specs.declared.config.Config.{Config}
use Rattle.net_model.specs.declared.config.Server.{Server}
use Rattle.net_model.specs.declared.config.Zone.{Zone}
use Rattle.zone_lookup.specs.Named.{item_named, IsAtLongest}
use Rattle.straight_walks.specs.Regions.{AreRegions, IsRegion, IsSearchBelow, region_origins}
use Rattle.straight_walks.specs.Straight.{NoOriginBetween}
use Rattle.straight_walks.specs.declared.region.Region.{Region}
use Rattle.straight_walks.proofs.BelowOrigins.{none_between_further}

-- the origin of a region's zone
abbrev pub origin_of : Region → Labels
origin_of region = region.origin.now

-- the region of the longest origin at or above a name
module _ (regions : List Region) (name : Labels) (region : Region) (nearest : IsAtLongest (item_named origin_of regions) name (length name) region) where
  found : Contains regions region × (name_eq (origin_of region) (take nearest.labels name) ≡ true)
  found = found_there (λ (other : Region). name_eq (origin_of other) (take nearest.labels name)) regions region nearest.there

  origin_is : origin_of region ≡ take nearest.labels name
  origin_is = (name_eq_decides (origin_of region) (take nearest.labels name)).0 found.1

  above : is_prefix (origin_of region) name ≡ true
  above = is_prefix_told (origin_of region) name
      (drop nearest.labels name, ap (λ (n : Labels). n ++ drop nearest.labels name) origin_is ∙ take-append-drop nearest.labels name)

  -- of the regions at or above the name none has an origin of more labels
  none_longer : (other : Region) → Contains regions other → is_prefix (origin_of other) name ≡ true → length (origin_of region) < length (origin_of other) → ⊥
  none_longer other has inside more =
      let begins = is_prefix_tells (origin_of other) name inside in
      let front : origin_of other ≡ take (length (origin_of other)) name =
      sym (take_at (origin_of other) begins.0 (length (origin_of other)) refl) ∙ ap (take (length (origin_of other))) begins.1 in
      let short : length (origin_of other) ≤ length name = omega (arith, ap (λ (n : Labels). length n) begins.1, length-append (origin_of other) begins.0) in
      let labels : length (origin_of region) ≡ nearest.labels = ap (λ (n : Labels). length n) origin_is ∙ length-take-le nearest.labels name nearest.within in
      let there = find_some (λ (x : Region). name_eq (origin_of x) (take (length (origin_of other)) name)) regions other has
      ((name_eq_decides (origin_of other) (take (length (origin_of other)) name)).1 front) in
      true≢false (sym (ap is_some there.1) ∙ nearest.none_longer (length (origin_of other)) (omega (arith, more, labels)) short)

-- the origin of a zone that a server holds is one of the regions'
pub has_region : (config : Config) (deps : Deps) (regions : List Region) → AreRegions config deps regions → (server origin : Labels) (zone : Zone)
    → held_zone config server origin ≡ Some zone → Contains (region_origins regions) origin
has_region config deps regions are server origin zone held = by (server_named config server) refl held where
  by : (holder : Option Server) → server_named config server ≡ holder → option_and_then (λ h. zone_with_origin h origin) holder ≡ Some zone → Contains (region_origins regions) origin
  by None named e = cc
  by (Some holder) named e =
      let one = found_there (λ (s : Server). name_eq s.name server) config.servers holder named in
      let other = found_there (λ (z : Zone). name_eq z.origin origin) holder.zones zone e in
      subst (Contains (region_origins regions)) ((name_eq_decides zone.origin origin).0 other.1) (are.all holder one.0 zone other.0)

-- the names of a region
module _ (config : Config) (deps : Deps) (regions : List Region) (are : AreRegions config deps regions) (name : Labels) (region : Region) (nearest : IsAtLongest (item_named origin_of regions) name (length name) region) where
  is_nearest : NoOriginBetween config (origin_of region) name
  is_nearest = record { above = above regions name region nearest; none_longer = λ server longer inside more. none server longer inside more (held_zone config server longer) refl } where
    none : (server longer : Labels) → is_prefix longer name ≡ true → length (origin_of region) < length longer → (held : Option Zone) → held_zone config server longer ≡ held
        → held ≡ None
    none server longer inside more None is = refl
    none server longer inside more (Some zone) is =
        let from = from_map origin_of regions longer (has_region config deps regions are server longer zone is) in
        let inner : is_prefix (origin_of from.0) name ≡ true = ap (λ (n : Labels). is_prefix n name) from.2 ∙ inside in
        absurd (none_longer regions name region nearest from.0 from.1 inner (subst (λ (n : Labels). length (origin_of region) < length n) (sym from.2) more))

  -- the search of the region of a name's nearest origin is one for the name, and for names below it with no origin
  -- between
  pub search_for : IsSearchBelow config deps name region.searched
  search_for query between =
      each_along (IsRegion config deps) regions are.each region (found regions name region nearest).0 query
      (none_between_further config (origin_of region) name query is_nearest between)
