-- The branches of a state with a local name are the same in the whole and in what is left, where as many of the local names
-- are followed; and they lead to local names.
use Rattle.std.proofs.Common.{◌≡◌, ◌≢◌, ℕ, ◌+◌, Bool, true, false, List, [], ◌∷◌, map, length, Contains, Option, Some, None, is_some, sym, refl, ap, ap₂, subst, ◌∙◌, arith}
use Rattle.std.specs.Prelude.{◌&&◌, ◌||◌, not, nat_lt, option_map, if◌then◌else◌}
use Rattle.std.specs.List.{AllByRecursion, list_any}
use Rattle.std.specs.Option.{option_map_or}
use Rattle.dns_data.specs.Name.{Labels, name_eq, is_prefix}
use Rattle.dns_data.specs.declared.rr_type.RrType.{RrType}
use Rattle.dns_data.specs.declared.rr_type.RrType.TheVariants as types
use Rattle.dns_data.proofs.Membership.{all_images}
use Rattle.net_model.specs.declared.config.Config.{Config}
use Rattle.net_model.specs.declared.config.Zone.{Zone}
use Rattle.net_model.specs.declared.found.Found.{Found}
use Rattle.net_model.specs.declared.found.Found.TheVariants as found_as
use Rattle.net_model.specs.declared.place.Cut.{Cut}
use Rattle.net_model.specs.declared.place.Place.{Place}
use Rattle.net_model.specs.declared.walk.Hop.{Hop}
use Rattle.net_model.specs.declared.walk.Hop.TheVariants.{Refer, Rewrite}
use Rattle.net_model.specs.declared.walk.Leaf.{Leaf}
use Rattle.net_model.specs.declared.walk.Leaf.TheVariants.{Unhosted, NoAddress, Lame, Limit, Overlong}
use Rattle.net_model.specs.declared.walk.State.{State}
use Rattle.net_model.specs.Lookup.{found}
use Rattle.net_model.specs.Nearest.{nearest_of, held_zone, is_configured, is_top}
use Rattle.net_model.specs.Reading.{zones}
use Rattle.net_model.specs.Step.{Setting, following, Branch, Go, End, has_glue, may_follow, arrived, delegated, referred, servers_after, rewritten, after_lookup, in_zone, next}
use Rattle.net_model.specs.Zone.{has_address}
use Rattle.net_model.proofs.NearestZones.{nearest_tells}
use Rattle.part_laws.specs.Part.{restricted_zone, restricted, IsLocal, IsPart, HaveSameLocalNames}
use Rattle.part_laws.proofs.Lists.{map_same}
use Rattle.part_laws.proofs.LocalNames.{local_held, above_local, origin_based}
use Rattle.part_laws.proofs.FoundAlike.{RefersLocal, FoundLocal, found_alike, found_local, left_at}
use Rattle.part_laws.proofs.LookupsAlike.{has_address_alike}
use Rattle.part_laws.proofs.Targets.{ns_data}
use Rattle.part_laws.proofs.ZonesAlike.{nearest_of_alike, held_zone_alike, held_zone_there, configured_alike, is_some-mapped}

-- the zone cut and the referring zone are local, and the name server where its zones or its address are asked for
pub record IsCutLocal (config : Config) (names : List Labels) (cut : Cut) : Type 0 where
  pub cut_is : IsLocal config names cut.cut
  pub zone_is : IsLocal config names cut.zone
  pub inside : is_prefix cut.cut cut.ns ≡ true → IsLocal config names cut.ns
  pub asked : is_configured config cut.ns ≡ true → is_top config cut.ns ≡ false → IsLocal config names cut.ns

-- a referral's cut is local
abbrev pub IsHopLocal : Config → List Labels → Hop → Type 0
IsHopLocal config names (Refer cut) = IsCutLocal config names cut
IsHopLocal config names (Rewrite place by_dname to) = Unit {0}

-- a name server whose address isn't known is local
abbrev pub IsLeafLocal : Config → List Labels → Leaf → Type 0
IsLeafLocal config names (NoAddress ns) = IsLocal config names ns
IsLeafLocal config names leaf = Unit {0}

-- the branch leads to a local name, by a hop that is local, or ends so
abbrev pub IsBranchLocal : Config → List Labels → Branch → Type 0
IsBranchLocal config names (Go hop to) = IsHopLocal config names hop × IsLocal config names to.name
IsBranchLocal config names (End (Some hop) leaf) = IsHopLocal config names hop × IsLeafLocal config names leaf
IsBranchLocal config names (End None leaf) = IsLeafLocal config names leaf

-- the state at a server that looks the name up in the zone with this origin
abbrev arrived_at : Labels → Bool → ℕ → Option Place → Labels → Option Labels → State
arrived_at name carried used last server zone =
    record { server = server; name = name; carried = carried; cut = 0; used = used; last = last; zone = zone }

module _ (config : Config) (names : List Labels) (part : IsPart config names) where
  -- what is left of the configuration
  abbrev left : Config
  left = restricted names config

  mapped_origin : (o : Option Zone) → option_map (λ (zone : Zone). zone.origin) (option_map (restricted_zone names) o) ≡ option_map (λ (zone : Zone). zone.origin) o
  mapped_origin None = refl
  mapped_origin (Some zone) = refl

  -- a query or a rewritten name that is local arrives alike
  pub arrived_alike : (name : Labels) → IsLocal config names name → (carried : Bool) (used : ℕ) (last : Option Place) (server : Labels)
      → arrived left name carried used last server ≡ arrived config name carried used last server
  arrived_alike name local carried used last server =
      ap (arrived_at name carried used last server)
      (ap (option_map (λ (zone : Zone). zone.origin)) (nearest_of_alike config names server name local) ∙ mapped_origin (nearest_of config server name))

  -- a referral has glue in both or in neither
  pub glue_alike : (cut : Cut) → IsCutLocal config names cut → has_glue left cut ≡ has_glue config cut
  glue_alike cut local = by (is_prefix cut.cut cut.ns) refl where
    in_held : (o : Option Zone) → held_zone config cut.server cut.zone ≡ o → IsLocal config names cut.ns
        → option_map_or (λ (zone : Zone). has_address zone cut.ns) (option_map (restricted_zone names) o) false
        ≡ option_map_or (λ (zone : Zone). has_address zone cut.ns) o false
    in_held None is ns = refl
    in_held (Some zone) is ns = has_address_alike config names part zone (held_zone_there config names cut.server cut.zone zone is).0 cut.ns ns

    by : (b : Bool) → is_prefix cut.cut cut.ns ≡ b
        → (b && option_map_or (λ (zone : Zone). has_address zone cut.ns) (held_zone left cut.server cut.zone) false)
        ≡ (b && option_map_or (λ (zone : Zone). has_address zone cut.ns) (held_zone config cut.server cut.zone) false)
    by true is =
        ap (λ (o : Option Zone). option_map_or (λ (zone : Zone). has_address zone cut.ns) o false) (held_zone_alike config names cut.server cut.zone local.zone_is)
        ∙ in_held (held_zone config cut.server cut.zone) refl (local.inside is)
    by false is = refl

  -- a zone's referral to one of its name servers is local
  refers_local : (zone : Zone) (has : Contains (zones config) zone) (held : Contains names zone.origin) (server cut ns : Labels) (all : List Labels)
      → RefersLocal config names part zone has held cut all → Contains all ns
      → IsCutLocal config names (record { server = server; zone = zone.origin; cut = cut; ns = ns })
  refers_local zone has held server cut ns all refers among =
      let t = refers.listed ns among in
      let stands = left_at config names part zone has held cut types.Ns ns refers.at_cut.local t in
      let apart : t.rr.owner ≢ zone.origin =
      λ same. let lengths : length cut ≡ length zone.origin = ap length (sym t.owner_is ∙ same) in let below = refers.at_cut.below in omega arith in
      let rdata_is = ns_data t.rr.rdata ns t.of_type t.has_it in
      record {
        cut_is = refers.at_cut.local;
        zone_is = record { held = λ above below e based. part.prefixes above below (subst (Contains names) (sym e) held) };
        inside = λ begins. part.glue (restricted_zone names zone) t.rr ns stands apart rdata_is
            (subst (λ (owner : Labels). is_prefix owner ns ≡ true) (sym t.owner_is) begins);
        asked = λ configured no_top. part.learnt (restricted_zone names zone) t.rr ns stands apart rdata_is configured no_top;
      }

  module _ (rewrites : ℕ) (of_whole of_part : List Labels) (alike : HaveSameLocalNames config names of_part of_whole) where
    abbrev in_whole : Setting
    in_whole = following config rewrites of_whole

    abbrev in_part : Setting
    in_part = following left rewrites of_part

    -- a configured name server may be followed in both or in neither
    follow_alike : (cut : Cut) → IsCutLocal config names cut → is_configured config cut.ns ≡ true
        → may_follow left cut of_part ≡ may_follow config cut of_whole
    follow_alike cut local configured =
        ap (λ (glue : Bool). is_top config cut.ns || glue || list_any (name_eq cut.ns) of_part) (glue_alike cut local) ∙ by (is_top config cut.ns) refl
      where
        by : (top : Bool) → is_top config cut.ns ≡ top
            → (top || has_glue config cut || list_any (name_eq cut.ns) of_part) ≡ (top || has_glue config cut || list_any (name_eq cut.ns) of_whole)
        by true is = refl
        by false is = ap (λ (among : Bool). has_glue config cut || among) (alike.same cut.ns (local.asked configured is))

    delegated_alike : (state : State) (cut : Cut) (o : Option Zone) → delegated state cut (option_map (restricted_zone names) o) ≡ delegated state cut o
    delegated_alike state cut None = refl
    delegated_alike state cut (Some zone) = refl

    referred_alike : (state : State) (cut : Cut) → IsLocal config names state.name → IsCutLocal config names cut
        → referred in_part state cut ≡ referred in_whole state cut
    referred_alike state cut local cut_local =
        ap (λ (configured : Bool). branch configured (may_follow left cut of_part) (delegated state cut (nearest_of left cut.ns state.name)))
        (configured_alike config names cut.ns)
        ∙ by (is_configured config cut.ns) refl
      where
        branch : Bool → Bool → Branch → Branch
        branch configured follow on =
            if not configured then End (Some (Refer cut)) (Unhosted cut.ns) else (if not follow then End (Some (Refer cut)) (NoAddress cut.ns) else on)

        by : (configured : Bool) → is_configured config cut.ns ≡ configured
            → branch configured (may_follow left cut of_part) (delegated state cut (nearest_of left cut.ns state.name))
            ≡ branch configured (may_follow config cut of_whole) (delegated state cut (nearest_of config cut.ns state.name))
        by false is = refl
        by true is =
            ap₂ (branch true) (follow_alike cut cut_local is)
            (ap (delegated state cut) (nearest_of_alike config names cut.ns state.name local) ∙ delegated_alike state cut (nearest_of config cut.ns state.name))

    servers_alike : (state : State) (to : Labels) → IsLocal config names to → servers_after left state to ≡ servers_after config state to
    servers_alike state to local =
        ap (λ (some : Bool). if some then state.server ∷ [] else config.tops)
        (ap is_some (nearest_of_alike config names state.server to local) ∙ is_some-mapped (restricted_zone names) (nearest_of config state.server to))

    rewritten_alike : (state : State) (place : Place) (by_dname : Bool) (to : Labels) → IsLocal config names to
        → rewritten left state place by_dname to ≡ rewritten config state place by_dname to
    rewritten_alike state place by_dname to local =
        ap (map (λ (server : Labels). Go (Rewrite place by_dname to) (arrived left to (state.carried && by_dname) (state.used + 1) (Some place) server)))
        (servers_alike state to local)
        ∙ map_same (λ (server : Labels). Go (Rewrite place by_dname to) (arrived left to (state.carried && by_dname) (state.used + 1) (Some place) server))
        (λ (server : Labels). Go (Rewrite place by_dname to) (arrived config to (state.carried && by_dname) (state.used + 1) (Some place) server))
        (servers_after config state to)
        (λ server has. ap (λ (s : State). Go (Rewrite place by_dname to) s) (arrived_alike to local (state.carried && by_dname) (state.used + 1) (Some place) server))

    module _ (state : State) (rtype : RrType) (local : IsLocal config names state.name) where
      module _ (zone : Zone) (has : Contains (zones config) zone) (held : Contains names zone.origin) where
        after_alike : (finds : Found) → FoundLocal config names part zone has held finds
            → after_lookup in_part state zone.origin finds ≡ after_lookup in_whole state zone.origin finds
        after_alike (found_as.Answer rdata) is = refl
        after_alike found_as.NoData is = refl
        after_alike found_as.NxDomain is = refl
        after_alike (found_as.TooLong owner) is = refl
        after_alike (found_as.Referral cut all) is =
            map_same (λ (ns : Labels). referred in_part state (record { server = state.server; zone = zone.origin; cut = cut; ns = ns }))
            (λ (ns : Labels). referred in_whole state (record { server = state.server; zone = zone.origin; cut = cut; ns = ns })) all
            (λ ns among. referred_alike state (record { server = state.server; zone = zone.origin; cut = cut; ns = ns }) local
            (refers_local zone has held state.server cut ns all is among))
        after_alike (found_as.Rewrite by_dname owner to) is =
            ap (λ (on : List Branch). if nat_lt state.used rewrites then on
            else End None (Limit (record { server = state.server; zone = zone.origin; owner = owner })) ∷ [])
            (rewritten_alike state (record { server = state.server; zone = zone.origin; owner = owner }) by_dname to is)

      held_above : (zone : Zone) → nearest_of config state.server state.name ≡ Some zone → Contains (zones config) zone × Contains names zone.origin
      held_above zone is =
          let there = nearest_tells config state.server state.name zone is in
          (there.0, local_held config names zone.origin (above_local config names zone.origin state.name there.1 local) (origin_based config zone there.0))

      in_zone_alike : (o : Option Zone) → nearest_of config state.server state.name ≡ o
          → in_zone in_part rtype state (option_map (restricted_zone names) o) ≡ in_zone in_whole rtype state o
      in_zone_alike None is = refl
      in_zone_alike (Some zone) is =
          let there = held_above zone is in
          ap (after_lookup in_part state zone.origin) (found_alike config names part zone there.0 there.1 state.name local rtype)
          ∙ after_alike zone there.0 there.1 (found zone state.name rtype) (found_local config names part zone there.0 there.1 state.name rtype local)

      -- a state with a local name has the same branches in both
      pub next_alike : next in_part rtype state ≡ next in_whole rtype state
      next_alike =
          ap (in_zone in_part rtype state) (nearest_of_alike config names state.server state.name local)
          ∙ in_zone_alike (nearest_of config state.server state.name) refl

  -- ---- the branches in the whole are local

  module _ (rewrites : ℕ) (followed : List Labels) (state : State) (rtype : RrType) (local : IsLocal config names state.name) where
    referred_local : (cut : Cut) → IsCutLocal config names cut → (configured top glue among : Bool) → is_configured config cut.ns ≡ configured
        → is_top config cut.ns ≡ top → (o : Option Zone)
        → IsBranchLocal config names (if not configured then End (Some (Refer cut)) (Unhosted cut.ns)
        else (if not (top || glue || among) then End (Some (Refer cut)) (NoAddress cut.ns) else delegated state cut o))
    referred_local cut cut_local false top glue among is also o = (cut_local, tt)
    referred_local cut cut_local true true glue among is also None = (cut_local, tt)
    referred_local cut cut_local true true glue among is also (Some zone) = by (is_prefix cut.cut zone.origin) where
      by : (b : Bool) → IsBranchLocal config names (if b then Go (Refer cut) (record state { server = cut.ns; cut = length cut.cut; zone = Some zone.origin })
          else End (Some (Refer cut)) (Lame cut.ns))
      by true = (cut_local, local)
      by false = (cut_local, tt)
    referred_local cut cut_local true false glue among is also o = by (glue || among) o where
      within : (zone : Zone) (b : Bool) → IsBranchLocal config names (if b then Go (Refer cut) (record state { server = cut.ns; cut = length cut.cut; zone = Some zone.origin })
          else End (Some (Refer cut)) (Lame cut.ns))
      within zone true = (cut_local, local)
      within zone false = (cut_local, tt)

      by : (b : Bool) (o : Option Zone) → IsBranchLocal config names (if not b then End (Some (Refer cut)) (NoAddress cut.ns) else delegated state cut o)
      by false o = (cut_local, cut_local.asked is also)
      by true None = (cut_local, tt)
      by true (Some zone) = within zone (is_prefix cut.cut zone.origin)

    module _ (zone : Zone) (has : Contains (zones config) zone) (held : Contains names zone.origin) where
      after_local : (finds : Found) → FoundLocal config names part zone has held finds
          → AllByRecursion (IsBranchLocal config names) (after_lookup (following config rewrites followed) state zone.origin finds)
      after_local (found_as.Answer rdata) is = (tt, tt)
      after_local found_as.NoData is = (tt, tt)
      after_local found_as.NxDomain is = (tt, tt)
      after_local (found_as.TooLong owner) is = by (nat_lt state.used rewrites) where
        by : (b : Bool) → AllByRecursion (IsBranchLocal config names)
            (if b then End None (Overlong (record { server = state.server; zone = zone.origin; owner = owner })) ∷ []
            else End None (Limit (record { server = state.server; zone = zone.origin; owner = owner })) ∷ [])
        by true = (tt, tt)
        by false = (tt, tt)
      after_local (found_as.Referral cut all) is =
          all_images (λ (ns : Labels). referred (following config rewrites followed) state (record { server = state.server; zone = zone.origin; cut = cut; ns = ns }))
          (IsBranchLocal config names) all
          (λ ns among. let at : Cut = record { server = state.server; zone = zone.origin; cut = cut; ns = ns } in
          referred_local at (refers_local zone has held state.server cut ns all is among) (is_configured config ns) (is_top config ns) (has_glue config at)
          (list_any (name_eq ns) followed) refl refl (nearest_of config ns state.name))
      after_local (found_as.Rewrite by_dname owner to) is = by (nat_lt state.used rewrites) where
        by : (b : Bool) → AllByRecursion (IsBranchLocal config names)
            (if b then rewritten config state (record { server = state.server; zone = zone.origin; owner = owner }) by_dname to
            else End None (Limit (record { server = state.server; zone = zone.origin; owner = owner })) ∷ [])
        by true =
            all_images (λ (server : Labels). Go (Rewrite (record { server = state.server; zone = zone.origin; owner = owner }) by_dname to)
            (arrived config to (state.carried && by_dname) (state.used + 1) (Some (record { server = state.server; zone = zone.origin; owner = owner })) server))
            (IsBranchLocal config names) (servers_after config state to) (λ server among. (tt, is))
        by false = (tt, tt)

    in_zone_local : (o : Option Zone) → nearest_of config state.server state.name ≡ o
        → AllByRecursion (IsBranchLocal config names) (in_zone (following config rewrites followed) rtype state o)
    in_zone_local None is = (tt, tt)
    in_zone_local (Some zone) is =
        let there = nearest_tells config state.server state.name zone is in
        let held = local_held config names zone.origin (above_local config names zone.origin state.name there.1 local) (origin_based config zone there.0) in
        after_local zone there.0 held (found zone state.name rtype) (found_local config names part zone there.0 held state.name rtype local)

  -- each branch of a state with a local name leads to a local name, by a hop that is local, or ends so
  pub next_local : (rewrites : ℕ) (followed : List Labels) (state : State) (rtype : RrType) → IsLocal config names state.name
      → AllByRecursion (IsBranchLocal config names) (next (following config rewrites followed) rtype state)
  next_local rewrites followed state rtype local =
      in_zone_local rewrites followed state rtype local (nearest_of config state.server state.name) refl
