-- Each state that a walk comes to has the origin of the zone in which its server looks its name up.
use Rattle.std.proofs.Common.{◌≡◌, ◌+◌, Bool, true, false, cond, List, [], ◌∷◌, map, Option, Some, None, refl, sym, ap, subst}
use Rattle.std.specs.Prelude.{◌&&◌, Contains, not, nat_lt, option_map}
use Rattle.std.specs.List.{AllByRecursion}
use Rattle.dns_data.specs.Name.{Labels, is_prefix}
use Rattle.dns_data.specs.declared.rr_type.RrType.{RrType}
use Rattle.dns_data.proofs.Membership.{each_along, from_map}
use Rattle.net_model.specs.Lookup.{found}
use Rattle.net_model.specs.Nearest.{is_configured, nearest_of}
use Rattle.net_model.specs.Step.{Setting, Branch, Go, End, after_lookup, arrived, delegated, in_zone, may_follow, next, referred, servers_after, start}
use Rattle.net_model.specs.declared.config.Config.{Config}
use Rattle.net_model.specs.declared.config.Zone.{Zone}
use Rattle.net_model.specs.declared.found.Found.{Found}
use Rattle.net_model.specs.declared.found.Found.TheVariants as found_as
use Rattle.net_model.specs.declared.place.Cut.{Cut}
use Rattle.net_model.specs.declared.place.Place.{Place}
use Rattle.net_model.specs.declared.walk.Hop.{Hop}
use Rattle.net_model.specs.declared.walk.Hop.TheVariants.{Rewrite}
use Rattle.net_model.specs.declared.walk.State.{State}
use Rattle.interp_graph.specs.Listed.{Adds, Comes, ComesFrom, ComesOver}
use Rattle.interp_graph.specs.Steps.{AreLocated, IsLocated}
use Rattle.interp_graph.proofs.Standing.{begins}
use Rattle.interp_graph.proofs.TwoTurns.{all_come}

-- the branch leads to such a state, or ends
abbrev LeadsLocated : Config → Branch → Type 0
LeadsLocated config (Go hop to) = IsLocated config to
LeadsLocated config (End hop leaf) = Unit {0}

-- of two branches one is chosen
one_of_two : (P : Branch → Type 0) (b : Bool) (one other : Branch) → P one → P other → P (cond b one other)
one_of_two P true one other holds also = holds
one_of_two P false one other holds also = also

all_of_two : (P : Branch → Type 0) (b : Bool) (one other : List Branch) → AllByRecursion P one → AllByRecursion P other → AllByRecursion P (cond b one other)
all_of_two P true one other holds also = holds
all_of_two P false one other holds also = also

module _ (setting : Setting) (state : State) where
  abbrev Leads : Branch → Type 0
  Leads = LeadsLocated setting.config

  by_cut : (cut : Cut) (zone : Option Zone) → nearest_of setting.config cut.ns state.name ≡ zone → Leads (delegated state cut zone)
  by_cut cut None is = tt
  by_cut cut (Some zone) is =
      one_of_two Leads (is_prefix cut.cut zone.origin) _ _ (sym (ap (λ (nearest : Option Zone). option_map (λ (z : Zone). z.origin) nearest) is)) tt

  by_referral : (cut : Cut) → Leads (referred setting state cut)
  by_referral cut =
      one_of_two Leads (not (is_configured setting.config cut.ns)) _ _ tt
      (one_of_two Leads (not (may_follow setting.config cut setting.followed)) _ _ tt (by_cut cut (nearest_of setting.config cut.ns state.name) refl))

  by_referrals : (origin cut : Labels) (names : List Labels)
      → AllByRecursion Leads (map (λ ns. referred setting state (record { server = state.server; zone = origin; cut = cut; ns = ns })) names)
  by_referrals origin cut [] = tt
  by_referrals origin cut (ns ∷ names) =
      (by_referral (record { server = state.server; zone = origin; cut = cut; ns = ns }), by_referrals origin cut names)

  by_rewrites : (place : Place) (by_dname : Bool) (to : Labels) (servers : List Labels)
      → AllByRecursion Leads (map (λ server. Go (Rewrite place by_dname to)
      (arrived setting.config to (state.carried && by_dname) (state.used + 1) (Some place) server)) servers)
  by_rewrites place by_dname to [] = tt
  by_rewrites place by_dname to (server ∷ servers) = (refl, by_rewrites place by_dname to servers)

  by_found : (origin : Labels) (what : Found) → AllByRecursion Leads (after_lookup setting state origin what)
  by_found origin (found_as.Answer rdata) = (tt, tt)
  by_found origin found_as.NoData = (tt, tt)
  by_found origin found_as.NxDomain = (tt, tt)
  by_found origin (found_as.Referral cut names) = by_referrals origin cut names
  by_found origin (found_as.Rewrite by_dname owner to) =
      all_of_two Leads (nat_lt state.used setting.rewrites) _ _ (by_rewrites _ by_dname to (servers_after setting.config state to)) (tt, tt)
  by_found origin (found_as.TooLong owner) = all_of_two Leads (nat_lt state.used setting.rewrites) _ _ (tt, tt) (tt, tt)

  all_lead : (rtype : RrType) (zone : Option Zone) → AllByRecursion Leads (in_zone setting rtype state zone)
  all_lead rtype None = (tt, tt)
  all_lead rtype (Some zone) = by_found zone.origin (found zone state.name rtype)

  -- each step leads to such a state
  goes_located : (rtype : RrType) (hop : Hop) (to : State) → Contains (next setting rtype state) (Go hop to) → IsLocated setting.config to
  goes_located rtype hop to has =
      each_along Leads (next setting rtype state) (all_lead rtype (nearest_of setting.config state.server state.name)) (Go hop to) has

-- where the states are such in which walks begin, so is each that they come to
pub comes_located : (setting : Setting) (begin : List State) (rtype : RrType) (state : State) → AreLocated setting.config begin → Comes setting begin rtype state
    → IsLocated setting.config state
comes_located setting begin rtype state located comes = by comes.path comes.over where
  by : (path : List State) → ComesOver setting begin rtype path state → IsLocated setting.config state
  by [] has = located state has
  by (before ∷ path) (over, hop, has) = goes_located setting before rtype hop state has

-- and so are all that are listed, where the first ones are
pub all_located : (setting : Setting) (among : RrType → Bool) (some : RrType) → among some ≡ true → (before now : List State) → AreLocated setting.config before
    → Adds (ComesFrom setting among before) before now → AreLocated setting.config now
all_located setting among some is before now located adds state has =
    comes_located setting before some state located
    (all_come setting among before now adds before (λ one among_before rtype all. begins setting before one rtype among_before) state has some is)

-- the states in which a query begins are such
pub begin_located : (config : Config) (query : Labels) (state : State) → Contains (start config query) state → IsLocated config state
begin_located config query state has =
    let from = from_map (arrived config query true 0 None) config.tops state has in subst (IsLocated config) from.2 refl
