-- What a state leads to where only some servers are followed is what it leads to where all are, each branch restricted.
use Rattle.std.proofs.Common.{◌≡◌, ℕ, ◌+◌, Bool, true, false, not, length, true≢false, List, [], ◌∷◌, map, Option, Some, None, refl, sym, ap, ◌∙◌}
use Rattle.std.specs.Prelude.{◌&&◌, if◌then◌else◌, nat_lt}
use Rattle.std.specs.Option.{option_map_or}
use Rattle.dns_data.specs.Name.{Labels, is_prefix}
use Rattle.dns_data.specs.declared.rr_type.RrType.{RrType}
use Rattle.net_model.specs.Lookup.{found}
use Rattle.net_model.specs.Nearest.{is_configured, nearest_of, server_names}
use Rattle.net_model.specs.Step.{Setting, Branch, Go, End, following, may_follow, arrived, delegated, referred, servers_after, after_lookup, in_zone, next}
use Rattle.net_model.specs.declared.config.Config.{Config}
use Rattle.net_model.specs.declared.config.Zone.{Zone}
use Rattle.net_model.specs.declared.found.Found.{Found}
use Rattle.net_model.specs.declared.found.Found.TheVariants as found_as
use Rattle.net_model.specs.declared.place.Cut.{Cut}
use Rattle.net_model.specs.declared.place.Place.{Place}
use Rattle.net_model.specs.declared.walk.Hop.{Hop}
use Rattle.net_model.specs.declared.walk.Hop.TheVariants.{Refer, Rewrite}
use Rattle.net_model.specs.declared.walk.Leaf.{Leaf}
use Rattle.net_model.specs.declared.walk.Leaf.TheVariants.{Lame, NoAddress, Unhosted}
use Rattle.net_model.specs.declared.walk.State.{State}
use Rattle.net_model.proofs.Followed.{names_follow_all}
use Rattle.interp_graph.specs.Restricted.{shut, restricted}

module _ (config : Config) (rewrites : ℕ) (followed : List Labels) (state : State) where
  abbrev all : Setting
  all = following config rewrites (server_names config)

  abbrev some : Setting
  some = following config rewrites followed

  abbrev ends : Hop → Option Leaf
  ends = shut config followed

  abbrev change : Branch → Branch
  change = restricted ends

  -- a branch by a referral that may be followed or not
  either_way : (cut : Cut) (branch : Branch) (may : Bool) → may_follow config cut followed ≡ may
      → (if not may then End (Some (Refer cut)) (NoAddress cut.ns) else branch) ≡ option_map_or (λ leaf. End (Some (Refer cut)) leaf) (ends (Refer cut)) branch
  either_way cut branch may is = by may ∙ sym (ap (λ m. option_map_or (λ leaf. End (Some (Refer cut)) leaf) (if m then None else Some (NoAddress cut.ns)) branch) is) where
    by : (m : Bool) → (if not m then End (Some (Refer cut)) (NoAddress cut.ns) else branch)
        ≡ option_map_or (λ leaf. End (Some (Refer cut)) leaf) (if m then None else Some (NoAddress cut.ns)) branch
    by true = refl
    by false = refl

  delegation : (cut : Cut) (zone : Option Zone) (may : Bool) → may_follow config cut followed ≡ may
      → (if not may then End (Some (Refer cut)) (NoAddress cut.ns) else delegated state cut zone) ≡ change (delegated state cut zone)
  delegation cut None may is = either_way cut (End (Some (Refer cut)) (Lame cut.ns)) may is
  delegation cut (Some zone) may is = by (is_prefix cut.cut zone.origin) where
    to : State
    to = record state { server = cut.ns; cut = length cut.cut; zone = Some zone.origin }

    by : (inside : Bool)
        → (if not may then End (Some (Refer cut)) (NoAddress cut.ns) else (if inside then Go (Refer cut) to else End (Some (Refer cut)) (Lame cut.ns)))
        ≡ change (if inside then Go (Refer cut) to else End (Some (Refer cut)) (Lame cut.ns))
    by true = either_way cut (Go (Refer cut) to) may is
    by false = either_way cut (End (Some (Refer cut)) (Lame cut.ns)) may is

  referral : (cut : Cut) → referred some state cut ≡ change (referred all state cut)
  referral cut = by (is_configured config cut.ns) (may_follow config cut (server_names config)) (names_follow_all config rewrites cut) where
    by : (configured follow : Bool) → (configured ≡ true → follow ≡ true)
        → (if not configured then End (Some (Refer cut)) (Unhosted cut.ns)
        else (if not (may_follow config cut followed) then End (Some (Refer cut)) (NoAddress cut.ns) else delegated state cut (nearest_of config cut.ns state.name)))
        ≡ change (if not configured then End (Some (Refer cut)) (Unhosted cut.ns)
        else (if not follow then End (Some (Refer cut)) (NoAddress cut.ns) else delegated state cut (nearest_of config cut.ns state.name)))
    by false follow h = refl
    by true true h = delegation cut (nearest_of config cut.ns state.name) (may_follow config cut followed) refl
    by true false h = absurd (true≢false (sym (h refl)))

  referrals : (origin cut : Labels) (names : List Labels)
      → map (λ ns. referred some state (record { server = state.server; zone = origin; cut = cut; ns = ns })) names
      ≡ map change (map (λ ns. referred all state (record { server = state.server; zone = origin; cut = cut; ns = ns })) names)
  referrals origin cut [] = refl
  referrals origin cut (ns ∷ names) =
      ap (λ b. b ∷ map (λ n. referred some state (record { server = state.server; zone = origin; cut = cut; ns = n })) names)
      (referral (record { server = state.server; zone = origin; cut = cut; ns = ns }))
      ∙ ap (λ bs. change (referred all state (record { server = state.server; zone = origin; cut = cut; ns = ns })) ∷ bs) (referrals origin cut names)

  rewrites_same : (place : Place) (by_dname : Bool) (to : Labels) (servers : List Labels)
      → map (λ server. Go (Rewrite place by_dname to) (arrived config to (state.carried && by_dname) (state.used + 1) (Some place) server)) servers
      ≡ map change (map (λ server. Go (Rewrite place by_dname to) (arrived config to (state.carried && by_dname) (state.used + 1) (Some place) server)) servers)
  rewrites_same place by_dname to [] = refl
  rewrites_same place by_dname to (server ∷ servers) =
      ap (λ bs. Go (Rewrite place by_dname to) (arrived config to (state.carried && by_dname) (state.used + 1) (Some place) server) ∷ bs)
      (rewrites_same place by_dname to servers)

  either : (b : Bool) (xs ys xs' ys' : List Branch) → xs ≡ map change xs' → ys ≡ map change ys' → (if b then xs else ys) ≡ map change (if b then xs' else ys')
  either true xs ys xs' ys' one other = one
  either false xs ys xs' ys' one other = other

  looked_up : (origin : Labels) (what : Found) → after_lookup some state origin what ≡ map change (after_lookup all state origin what)
  looked_up origin (found_as.Answer rdata) = refl
  looked_up origin found_as.NoData = refl
  looked_up origin found_as.NxDomain = refl
  looked_up origin (found_as.Referral cut names) = referrals origin cut names
  looked_up origin (found_as.Rewrite by_dname owner to) =
      either (nat_lt state.used rewrites) _ _ _ _
      (rewrites_same (record { server = state.server; zone = origin; owner = owner }) by_dname to (servers_after config state to)) refl
  looked_up origin (found_as.TooLong owner) = either (nat_lt state.used rewrites) _ _ _ _ refl refl

  -- what a state leads to while some servers are followed is what it leads to while all are, each branch restricted
  pub next_restricted : (rtype : RrType) → next some rtype state ≡ map change (next all rtype state)
  next_restricted rtype = by (nearest_of config state.server state.name) where
    by : (zone : Option Zone) → in_zone some rtype state zone ≡ map change (in_zone all rtype state zone)
    by None = refl
    by (Some zone) = looked_up zone.origin (found zone state.name rtype)
