-- What each branch of a state is: an end, a referral to a name server, or a rewrite at a server.
use Rattle.std.proofs.Common.{◌≡◌, ◌+◌, ◌<◌, Bool, true, false, not, ◌&&◌, List, [], ◌∷◌, map, length, Contains, Option, Some, None, refl}
use Rattle.std.specs.Prelude.{nat_lt, if◌then◌else◌}
use Rattle.std.specs.List.{AllByRecursion}
use Rattle.std.proofs.lemmas.Bool.{ltb-true}
use Rattle.dns_data.specs.Name.{Labels, is_prefix}
use Rattle.dns_data.specs.declared.rr_type.RrType.{RrType}
use Rattle.dns_data.proofs.Membership.{all_images}
use Rattle.net_model.specs.declared.config.Zone.{Zone}
use Rattle.net_model.specs.declared.found.Found.{Found}
use Rattle.net_model.specs.declared.found.Found.TheVariants as found_as
use Rattle.net_model.specs.declared.place.Cut.{Cut}
use Rattle.net_model.specs.declared.place.Place.{Place}
use Rattle.net_model.specs.declared.walk.Hop.TheVariants.{Refer, Rewrite}
use Rattle.net_model.specs.declared.walk.Leaf.{Leaf}
use Rattle.net_model.specs.declared.walk.Leaf.TheVariants.{Outside, Answer, NoData, NxDomain, Unhosted, NoAddress, Lame, Limit, Overlong}
use Rattle.net_model.specs.declared.walk.State.{State}
use Rattle.net_model.specs.Lookup.{found}
use Rattle.net_model.specs.Nearest.{nearest_of, is_configured}
use Rattle.net_model.specs.Step.{Setting, Branch, Go, End, may_follow, arrived, delegated, referred, servers_after, after_lookup, in_zone, next}

-- the server looks the state's name up in the zone, and finds this
pub record LooksUp (setting : Setting) (rtype : RrType) (state : State) (zone : Zone) (finds : Found) : Type 0 where
  pub nearest : nearest_of setting.config state.server state.name ≡ Some zone
  pub is : found zone state.name rtype ≡ finds

-- the state's referral to a name server, the cut's, leads to its nearest zone for the name, which is at or below the cut
pub record IsDelegated (setting : Setting) (state : State) (cut : Cut) (zone : Zone) : Type 0 where
  pub nearest : nearest_of setting.config cut.ns state.name ≡ Some zone
  pub within : is_prefix cut.cut zone.origin ≡ true

-- the cut at which a zone refers
abbrev pub cut_at : State → Zone → Labels → Labels → Cut
cut_at state zone cut ns = record { server = state.server; zone = zone.origin; cut = cut; ns = ns }

-- the place at which a zone rewrites
abbrev pub place_in : State → Zone → Labels → Place
place_in state zone owner = record { server = state.server; zone = zone.origin; owner = owner }

module _ (setting : Setting) (rtype : RrType) (state : State) (P : Branch → Type 0)
    (ends : (leaf : Leaf) → P (End None leaf))
    (stops : (cut : Cut) (leaf : Leaf) → P (End (Some (Refer cut)) leaf))
    (refers : (zone below : Zone) (cut ns : Labels) (names : List Labels) → LooksUp setting rtype state zone (found_as.Referral cut names)
    → IsDelegated setting state (cut_at state zone cut ns) below
    → P (Go (Refer (cut_at state zone cut ns)) (record state { server = ns; cut = length cut; zone = Some below.origin })))
    (rewrites : (zone : Zone) (by_dname : Bool) (owner to server : Labels) → LooksUp setting rtype state zone (found_as.Rewrite by_dname owner to)
    → state.used < setting.rewrites → Contains (servers_after setting.config state to) server
    → P (Go (Rewrite (place_in state zone owner) by_dname to)
    (arrived setting.config to (state.carried && by_dname) (state.used + 1) (Some (place_in state zone owner)) server))) where
  each_delegated : (zone : Zone) (cut ns : Labels) (names : List Labels) → LooksUp setting rtype state zone (found_as.Referral cut names)
      → (below : Option Zone) → nearest_of setting.config ns state.name ≡ below → P (delegated state (cut_at state zone cut ns) below)
  each_delegated zone cut ns names looks None nearest = stops (cut_at state zone cut ns) (Lame ns)
  each_delegated zone cut ns names looks (Some below) nearest = by (is_prefix cut below.origin) refl where
    by : (b : Bool) → is_prefix cut below.origin ≡ b
        → P (if b then Go (Refer (cut_at state zone cut ns)) (record state { server = ns; cut = length cut; zone = Some below.origin })
        else End (Some (Refer (cut_at state zone cut ns))) (Lame ns))
    by true within = refers zone below cut ns names looks (record { nearest = nearest; within = within })
    by false within = stops (cut_at state zone cut ns) (Lame ns)

  each_referred : (zone : Zone) (cut ns : Labels) (names : List Labels) → LooksUp setting rtype state zone (found_as.Referral cut names)
      → P (referred setting state (cut_at state zone cut ns))
  each_referred zone cut ns names looks =
      by (is_configured setting.config ns) (may_follow setting.config (cut_at state zone cut ns) setting.followed) _
      (each_delegated zone cut ns names looks (nearest_of setting.config ns state.name) refl)
    where
      by : (configured follow : Bool) (on : Branch) → P on
          → P (if not configured then End (Some (Refer (cut_at state zone cut ns))) (Unhosted ns)
          else (if not follow then End (Some (Refer (cut_at state zone cut ns))) (NoAddress ns) else on))
      by true true on is = is
      by true false on is = stops (cut_at state zone cut ns) (NoAddress ns)
      by false follow on is = stops (cut_at state zone cut ns) (Unhosted ns)

  each_after : (zone : Zone) (finds : Found) → LooksUp setting rtype state zone finds → AllByRecursion P (after_lookup setting state zone.origin finds)
  each_after zone (found_as.Answer rdata) looks = (ends (Answer rdata), tt)
  each_after zone found_as.NoData looks = (ends NoData, tt)
  each_after zone found_as.NxDomain looks = (ends NxDomain, tt)
  each_after zone (found_as.Referral cut names) looks =
      all_images (λ (ns : Labels). referred setting state (cut_at state zone cut ns)) P names (λ ns has. each_referred zone cut ns names looks)
  each_after zone (found_as.Rewrite by_dname owner to) looks = by (nat_lt state.used setting.rewrites) refl where
    by : (left : Bool) → nat_lt state.used setting.rewrites ≡ left
        → AllByRecursion P (if left then map (λ (server : Labels). Go (Rewrite (place_in state zone owner) by_dname to)
        (arrived setting.config to (state.carried && by_dname) (state.used + 1) (Some (place_in state zone owner)) server)) (servers_after setting.config state to)
        else End None (Limit (place_in state zone owner)) ∷ [])
    by true left =
        all_images (λ (server : Labels). Go (Rewrite (place_in state zone owner) by_dname to)
        (arrived setting.config to (state.carried && by_dname) (state.used + 1) (Some (place_in state zone owner)) server)) P
        (servers_after setting.config state to)
        (λ server has. rewrites zone by_dname owner to server looks (ltb-true state.used setting.rewrites left) has)
    by false left = (ends (Limit (place_in state zone owner)), tt)
  each_after zone (found_as.TooLong owner) looks = by (nat_lt state.used setting.rewrites) where
    by : (left : Bool) → AllByRecursion P (if left then End None (Overlong (place_in state zone owner)) ∷ [] else End None (Limit (place_in state zone owner)) ∷ [])
    by true = (ends (Overlong (place_in state zone owner)), tt)
    by false = (ends (Limit (place_in state zone owner)), tt)

  each_in : (zone : Option Zone) → nearest_of setting.config state.server state.name ≡ zone → AllByRecursion P (in_zone setting rtype state zone)
  each_in None nearest = (ends Outside, tt)
  each_in (Some zone) nearest = each_after zone (found zone state.name rtype) (record { nearest = nearest; is = refl })

  -- what holds of each end, referral and rewrite of a state holds of each of its branches
  pub each_branch : AllByRecursion P (next setting rtype state)
  each_branch = each_in (nearest_of setting.config state.server state.name) refl
