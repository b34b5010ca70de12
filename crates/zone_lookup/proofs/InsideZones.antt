-- A referral stands in a zone whose origin is above its zone cut.
use Rattle.std.proofs.Common.{◌≡◌, ◌+◌, Bool, true, false, cond, List, [], ◌∷◌, map, refl, Option, Some, None}
use Rattle.std.specs.Prelude.{◌&&◌, not, nat_lt}
use Rattle.std.specs.List.{AllByRecursion}
use Rattle.dns_data.specs.Name.{Labels, is_prefix}
use Rattle.dns_data.specs.declared.rr_type.RrType.{RrType}
use Rattle.net_model.specs.Lookup.{found}
use Rattle.net_model.specs.Nearest.{nearest_of, is_configured}
use Rattle.net_model.specs.Step.{Setting, Branch, Go, End, arrived, delegated, referred, may_follow, servers_after, after_lookup, in_zone, next}
use Rattle.net_model.specs.declared.config.Zone.{Zone}
use Rattle.net_model.specs.declared.found.Found.{Found}
use Rattle.net_model.specs.declared.found.Found.TheVariants as found_as
use Rattle.net_model.specs.declared.place.Cut.{Cut}
use Rattle.net_model.specs.declared.place.Place.{Place}
use Rattle.net_model.specs.declared.walk.Hop.{Hop}
use Rattle.net_model.specs.declared.walk.Hop.TheVariants.{Refer, Rewrite}
use Rattle.net_model.specs.declared.walk.State.{State}
use Rattle.net_model.proofs.NearestZones.{nearest_tells}
use Rattle.zone_lookup.proofs.CutsInside.{cut_inside}

-- the zone cut of the hop, if it is a referral, is at or below the origin of its zone
abbrev pub HopInside : Hop → Type 0
HopInside (Refer cut) = is_prefix cut.zone cut.cut ≡ true
HopInside (Rewrite place by_dname to) = Unit {0}

-- a referral of the branch has its zone cut at or below the origin of its zone
abbrev pub BranchInside : Branch → Type 0
BranchInside (Go hop state) = HopInside hop
BranchInside (End None leaf) = Unit {0}
BranchInside (End (Some hop) leaf) = HopInside hop

either : (b : Bool) (one other : Branch) → BranchInside one → BranchInside other → BranchInside (cond b one other)
either true one other this that = this
either false one other this that = that

either_list : (b : Bool) (one other : List Branch) → AllByRecursion BranchInside one → AllByRecursion BranchInside other → AllByRecursion BranchInside (cond b one other)
either_list true one other this that = this
either_list false one other this that = that

module _ (setting : Setting) (state : State) where
  of_delegated : (cut : Cut) → is_prefix cut.zone cut.cut ≡ true → (zone : Option Zone) → BranchInside (delegated state cut zone)
  of_delegated cut inside None = inside
  of_delegated cut inside (Some zone) = either (is_prefix cut.cut zone.origin) _ _ inside inside

  of_referred : (cut : Cut) → is_prefix cut.zone cut.cut ≡ true → BranchInside (referred setting state cut)
  of_referred cut inside =
      either (not (is_configured setting.config cut.ns)) _ _ inside
      (either (not (may_follow setting.config cut setting.followed)) _ _ inside (of_delegated cut inside (nearest_of setting.config cut.ns state.name)))

  of_names : (origin cut : Labels) (names : List Labels) → is_prefix origin cut ≡ true
      → AllByRecursion BranchInside (map (λ ns. referred setting state (record { server = state.server; zone = origin; cut = cut; ns = ns })) names)
  of_names origin cut [] inside = tt
  of_names origin cut (ns ∷ names) inside =
      (of_referred (record { server = state.server; zone = origin; cut = cut; ns = ns }) inside, of_names origin cut names inside)

  of_servers : (place : Place) (by_dname : Bool) (to : Labels) (servers : List Labels)
      → AllByRecursion BranchInside (map (λ server. Go (Rewrite place by_dname to) (arrived setting.config to (state.carried && by_dname) (state.used + 1) (Some place) server)) servers)
  of_servers place by_dname to [] = tt
  of_servers place by_dname to (server ∷ servers) = (tt, of_servers place by_dname to servers)

  of_found : (origin : Labels) (what : Found) → ((cut : Labels) (names : List Labels) → what ≡ found_as.Referral cut names → is_prefix origin cut ≡ true)
      → AllByRecursion BranchInside (after_lookup setting state origin what)
  of_found origin (found_as.Answer rdata) inside = (tt, tt)
  of_found origin found_as.NoData inside = (tt, tt)
  of_found origin found_as.NxDomain inside = (tt, tt)
  of_found origin (found_as.Referral cut names) inside = of_names origin cut names (inside cut names refl)
  of_found origin (found_as.Rewrite by_dname owner to) inside =
      either_list (nat_lt state.used setting.rewrites) _ _ (of_servers _ by_dname to (servers_after setting.config state to)) (tt, tt)
  of_found origin (found_as.TooLong owner) inside = either_list (nat_lt state.used setting.rewrites) _ _ (tt, tt) (tt, tt)

  -- each referral of a state's branches has its zone cut at or below the origin of its zone
  pub next_inside : (rtype : RrType) → AllByRecursion BranchInside (next setting rtype state)
  next_inside rtype = by (nearest_of setting.config state.server state.name) refl where
    by : (zone : Option Zone) → nearest_of setting.config state.server state.name ≡ zone → AllByRecursion BranchInside (in_zone setting rtype state zone)
    by None is = (tt, tt)
    by (Some zone) is =
        of_found zone.origin (found zone state.name rtype)
        (λ cut names e. cut_inside zone state.name rtype cut names (nearest_tells setting.config state.server state.name zone is).1 e)
