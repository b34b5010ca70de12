-- A walk that comes back to a server and a name can be gone round again, until no rewrite is left: so another one ends at
-- the rewrite limit.
use Rattle.std.proofs.Common.{◌≡◌, ◌≢◌, ◌⊎◌, ℕ, zero, suc, ◌+◌, ◌<◌, ◌≤◌, Bool, true, false, not, ◌&&◌, List, [], ◌∷◌, ◌++◌, map, length, take, drop, slice_get, Contains, Option, Some, None, option_map, sym, refl, ap, ◌∙◌, subst, inl, inr, arith}
use Rattle.std.specs.Prelude.{nat_lt, if◌then◌else◌}
use Rattle.std.specs.Option.{option_map_or}
use Rattle.std.proofs.lemmas.Option.{slice_get-map}
use Rattle.dns_data.specs.Name.{Labels, is_prefix}
use Rattle.dns_data.specs.declared.rr_type.RrType.{RrType}
use Rattle.dns_data.proofs.Membership.{none_in_nil, has_first, has_later, first_or_later}
use Rattle.net_model.specs.declared.config.Config.{Config}
use Rattle.net_model.specs.declared.config.Zone.{Zone}
use Rattle.net_model.specs.declared.fault.Fault.TheVariants as faults
use Rattle.net_model.specs.declared.found.Found.{Found}
use Rattle.net_model.specs.declared.found.Found.TheVariants as found_as
use Rattle.net_model.specs.declared.place.Cut.{Cut}
use Rattle.net_model.specs.declared.place.Place.{Place}
use Rattle.net_model.specs.declared.walk.Hop.{Hop}
use Rattle.net_model.specs.declared.walk.Hop.TheVariants.{Refer, Rewrite}
use Rattle.net_model.specs.declared.walk.Leaf.TheVariants.{Lame, Unhosted, NoAddress, Limit, Overlong}
use Rattle.net_model.specs.declared.walk.State.{State}
use Rattle.net_model.specs.declared.walk.Walk.{Walk}
use Rattle.net_model.specs.Learnt.{IsInForce}
use Rattle.net_model.specs.Lookup.{found}
use Rattle.net_model.specs.Nearest.{nearest_of, is_configured}
use Rattle.net_model.specs.Returns.{ComesBack, hops_round, RewritesAt}
use Rattle.net_model.specs.Shown.{ShowsLimit, ShowsIn}
use Rattle.net_model.specs.Step.{Setting, following, Branch, Go, End, may_follow, start, arrived, delegated, referred, servers_after, after_lookup, in_zone, next}
use Rattle.net_model.specs.Walk.{branched, walk_from, IsWalk}
use Rattle.net_model.proofs.Branches.{cut_at, place_in}
use Rattle.net_model.proofs.EndsSomewhere.{origin_labels, GoesDown, goes_down}
use Rattle.net_model.proofs.WalkEnds.{item}
use Rattle.net_model.proofs.Leads.{Leads, walk_leads, leads_walk}
use Rattle.walk_laws.proofs.WalksAlike.QueryWalks.{begins_at, begun_walk}

-- the states ask the same server for the same name
pub record StandAlike (one two : State) : Type 0 where
  pub server : one.server ≡ two.server
  pub name : one.name ≡ two.name

-- ---- one step

module _ (setting : Setting) (rtype : RrType) where
  -- the state's branches are that no rewrite is left, at the place
  abbrev AtLimit : State → Place → Type 0
  AtLimit state place = next setting rtype state ≡ End None (Limit place) ∷ []

  -- beside a branch by a hop to a state, the branch with the number in a list goes by the same hop to one that stands alike
  abbrev GoesAlike : ℕ → List Branch → Hop → State → Type 0
  GoesAlike number branches hop to = (too : State) × (slice_get branches number ≡ Some (Go hop too)) × StandAlike too to

  -- or the hop is a rewrite and the branches are that none is left at its place
  abbrev AtItsLimit : List Branch → Hop → Type 0
  AtItsLimit branches hop =
      (place : Place) × (by_dname : Bool) × (name : Labels) × (hop ≡ Rewrite place by_dname name) × (branches ≡ End None (Limit place) ∷ [])

  module _ (state : State) (carried : Bool) (cut_labels used : ℕ) (last : Option Place) (origin : Option Labels) where
    -- another state at the same server and name
    abbrev beside : State
    beside =
        record { server = state.server; name = state.name; carried = carried; cut = cut_labels; used = used; last = last; zone = origin }

    delegated_beside : (cut : Cut) (zone : Option Zone) (hop : Hop) (to : State) → delegated state cut zone ≡ Go hop to
        → (too : State) × (delegated beside cut zone ≡ Go hop too) × StandAlike too to
    delegated_beside cut None hop to e = cc
    delegated_beside cut (Some zone) hop to e = by (is_prefix cut.cut zone.origin) e where
      by : (b : Bool)
          → (if b then Go (Refer cut) (record state { server = cut.ns; cut = length cut.cut; zone = Some zone.origin }) else End (Some (Refer cut)) (Lame cut.ns)) ≡ Go hop to
          → (too : State)
          × ((if b then Go (Refer cut) (record beside { server = cut.ns; cut = length cut.cut; zone = Some zone.origin }) else End (Some (Refer cut)) (Lame cut.ns)) ≡ Go hop too)
          × StandAlike too to
      by false e = cc
      by true e =
          let same_hop : Refer cut ≡ hop = cc in
          let same : record state { server = cut.ns; cut = length cut.cut; zone = Some zone.origin } ≡ to = cc in (
            record beside { server = cut.ns; cut = length cut.cut; zone = Some zone.origin },
            ap (λ (h : Hop). Go h (record beside { server = cut.ns; cut = length cut.cut; zone = Some zone.origin })) same_hop,
            record { server = ap (λ (s : State). s.server) same; name = ap (λ (s : State). s.name) same },
          )

    referred_beside : (cut : Cut) (hop : Hop) (to : State) → referred setting state cut ≡ Go hop to
        → (too : State) × (referred setting beside cut ≡ Go hop too) × StandAlike too to
    referred_beside cut hop to e =
        by (is_configured setting.config cut.ns) (may_follow setting.config cut setting.followed) e
      where
        by : (configured follow : Bool)
            → (if not configured then End (Some (Refer cut)) (Unhosted cut.ns) else (if not follow then End (Some (Refer cut)) (NoAddress cut.ns)
            else delegated state cut (nearest_of setting.config cut.ns state.name))) ≡ Go hop to
            → (too : State)
            × ((if not configured then End (Some (Refer cut)) (Unhosted cut.ns) else (if not follow then End (Some (Refer cut)) (NoAddress cut.ns)
            else delegated beside cut (nearest_of setting.config cut.ns state.name))) ≡ Go hop too)
            × StandAlike too to
        by true true e = delegated_beside cut (nearest_of setting.config cut.ns state.name) hop to e
        by true false e = cc
        by false follow e = cc

    referral_beside : (zone : Zone) (cut : Labels) (names : List Labels) (number : ℕ) (hop : Hop) (to : State)
        → slice_get (after_lookup setting state zone.origin (found_as.Referral cut names)) number ≡ Some (Go hop to)
        → GoesAlike number (after_lookup setting beside zone.origin (found_as.Referral cut names)) hop to
    referral_beside zone cut names number hop to e =
        by (slice_get names number) refl (sym (slice_get-map (λ (ns : Labels). referred setting state (cut_at state zone cut ns)) names number) ∙ e)
      where
        by : (ns : Option Labels) → slice_get names number ≡ ns → option_map (λ (ns : Labels). referred setting state (cut_at state zone cut ns)) ns ≡ Some (Go hop to)
            → GoesAlike number (map (λ (ns : Labels). referred setting beside (cut_at state zone cut ns)) names) hop to
        by None is e = cc
        by (Some ns) is e =
            let goes : referred setting state (cut_at state zone cut ns) ≡ Go hop to = cc in
            let there = referred_beside (cut_at state zone cut ns) hop to goes in (
              there.0,
              slice_get-map (λ (ns : Labels). referred setting beside (cut_at state zone cut ns)) names number
                  ∙ ap (option_map (λ (ns : Labels). referred setting beside (cut_at state zone cut ns))) is ∙ ap (λ (b : Branch). Some b) there.1,
              there.2,
            )

    -- the branch of a rewrite at a server
    abbrev rewrite_to : State → Place → Bool → Labels → Labels → Branch
    rewrite_to from place by_dname name server =
        Go (Rewrite place by_dname name) (arrived setting.config name (from.carried && by_dname) (from.used + 1) (Some place) server)

    rewritten_beside : (place : Place) (by_dname : Bool) (name : Labels) (servers : List Labels) (number : ℕ) (hop : Hop) (to : State)
        → slice_get (map (rewrite_to state place by_dname name) servers) number ≡ Some (Go hop to)
        → (Rewrite place by_dname name ≡ hop) × GoesAlike number (map (rewrite_to beside place by_dname name) servers) hop to
    rewritten_beside place by_dname name servers number hop to e =
        by (slice_get servers number) refl (sym (slice_get-map (rewrite_to state place by_dname name) servers number) ∙ e)
      where
        by : (server : Option Labels) → slice_get servers number ≡ server → option_map (rewrite_to state place by_dname name) server ≡ Some (Go hop to)
            → (Rewrite place by_dname name ≡ hop) × GoesAlike number (map (rewrite_to beside place by_dname name) servers) hop to
        by None is e = cc
        by (Some server) is e =
            let same_hop : Rewrite place by_dname name ≡ hop = cc in
            let same : arrived setting.config name (state.carried && by_dname) (state.used + 1) (Some place) server ≡ to = cc in (
              same_hop,
              (
                arrived setting.config name (carried && by_dname) (used + 1) (Some place) server,
                slice_get-map (rewrite_to beside place by_dname name) servers number
                    ∙ ap (option_map (rewrite_to beside place by_dname name)) is
                    ∙ ap (λ (h : Hop). Some (Go h (arrived setting.config name (carried && by_dname) (used + 1) (Some place) server))) same_hop,
                record { server = ap (λ (s : State). s.server) same; name = ap (λ (s : State). s.name) same },
              ),
            )

    rewrite_beside : (zone : Zone) (by_dname : Bool) (owner name : Labels) (number : ℕ) (hop : Hop) (to : State)
        → slice_get (after_lookup setting state zone.origin (found_as.Rewrite by_dname owner name)) number ≡ Some (Go hop to)
        → GoesAlike number (after_lookup setting beside zone.origin (found_as.Rewrite by_dname owner name)) hop to
        ⊎ AtItsLimit (after_lookup setting beside zone.origin (found_as.Rewrite by_dname owner name)) hop
    rewrite_beside zone by_dname owner name number hop to e =
        by (nat_lt state.used setting.rewrites) (nat_lt used setting.rewrites) e
      where
        place : Place
        place = place_in state zone owner

        none_left : (number : ℕ) → slice_get (End None (Limit place) ∷ []) number ≡ Some (Go hop to) → ⊥
        none_left zero e = cc
        none_left (suc number) e = cc

        by : (left also_left : Bool)
            → slice_get (if left then map (rewrite_to state place by_dname name) (servers_after setting.config state name) else End None (Limit place) ∷ []) number ≡ Some (Go hop to)
            → GoesAlike number (if also_left then map (rewrite_to beside place by_dname name) (servers_after setting.config state name) else End None (Limit place) ∷ []) hop to
            ⊎ AtItsLimit (if also_left then map (rewrite_to beside place by_dname name) (servers_after setting.config state name) else End None (Limit place) ∷ []) hop
        by false also_left e = absurd (none_left number e)
        by true true e = inl (rewritten_beside place by_dname name (servers_after setting.config state name) number hop to e).1
        by true false e =
            inr (place, by_dname, name, sym (rewritten_beside place by_dname name (servers_after setting.config state name) number hop to e).0, refl)

    after_beside : (zone : Zone) (finds : Found) (number : ℕ) (hop : Hop) (to : State)
        → slice_get (after_lookup setting state zone.origin finds) number ≡ Some (Go hop to)
        → GoesAlike number (after_lookup setting beside zone.origin finds) hop to ⊎ AtItsLimit (after_lookup setting beside zone.origin finds) hop
    after_beside zone (found_as.Answer rdata) zero hop to e = cc
    after_beside zone (found_as.Answer rdata) (suc number) hop to e = cc
    after_beside zone found_as.NoData zero hop to e = cc
    after_beside zone found_as.NoData (suc number) hop to e = cc
    after_beside zone found_as.NxDomain zero hop to e = cc
    after_beside zone found_as.NxDomain (suc number) hop to e = cc
    after_beside zone (found_as.Referral cut names) number hop to e = inl (referral_beside zone cut names number hop to e)
    after_beside zone (found_as.Rewrite by_dname owner name) number hop to e = rewrite_beside zone by_dname owner name number hop to e
    after_beside zone (found_as.TooLong owner) number hop to e = absurd (by (nat_lt state.used setting.rewrites) number e) where
      by : (left : Bool) (number : ℕ)
          → slice_get (if left then End None (Overlong (place_in state zone owner)) ∷ [] else End None (Limit (place_in state zone owner)) ∷ []) number ≡ Some (Go hop to) → ⊥
      by true zero e = cc
      by true (suc number) e = cc
      by false zero e = cc
      by false (suc number) e = cc

    step_beside : (number : ℕ) (hop : Hop) (to : State) → slice_get (next setting rtype state) number ≡ Some (Go hop to)
        → GoesAlike number (next setting rtype beside) hop to ⊎ AtItsLimit (next setting rtype beside) hop
    step_beside number hop to e = by (nearest_of setting.config state.server state.name) number e where
      by : (zone : Option Zone) (number : ℕ) → slice_get (in_zone setting rtype state zone) number ≡ Some (Go hop to)
          → GoesAlike number (in_zone setting rtype beside zone) hop to ⊎ AtItsLimit (in_zone setting rtype beside zone) hop
      by None zero e = cc
      by None (suc number) e = cc
      by (Some zone) number e = after_beside zone (found zone state.name rtype) number hop to e

  -- from a state that stands alike a step goes the same way, to a state that stands alike; or no rewrite is left for it
  same_step : (state other : State) → StandAlike other state → (number : ℕ) (hop : Hop) (to : State)
      → slice_get (next setting rtype state) number ≡ Some (Go hop to)
      → GoesAlike number (next setting rtype other) hop to ⊎ AtItsLimit (next setting rtype other) hop
  same_step state other like number hop to e =
      let same : record other { server = state.server; name = state.name } ≡ other =
      ap (λ (server : Labels). record other { server = server; name = state.name }) (sym like.server)
      ∙ ap (λ (name : Labels). record other { name = name }) (sym like.name) in
      subst (λ (s : State). GoesAlike number (next setting rtype s) hop to ⊎ AtItsLimit (next setting rtype s) hop) same
      (step_beside state other.carried other.cut other.used other.last other.zone number hop to e)

  -- ---- once round

  -- ahead of the state no rewrite is left at the place of one of the hops
  pub record LimitAhead (state : State) (round : List Hop) : Type 0 where
    pub place : Place
    pub rewrites_at : RewritesAt round place
    pub numbers : List ℕ
    pub hops : List Hop
    pub at : State
    pub leads : Leads setting rtype state numbers hops at
    pub limit : AtLimit at place

  -- by the hops the rewrites used don't fall and stay within the limit, and they rise where one of the hops is a rewrite
  pub record UsesUp (state : State) (hops : List Hop) (to : State) : Type 0 where
    pub up : state.used ≤ to.used
    pub within : state.used ≤ setting.rewrites → to.used ≤ setting.rewrites
    pub rises : (place : Place) → RewritesAt hops place → (state.used < to.used) × (to.used ≤ setting.rewrites)

  -- the numbers lead round to a state that stands alike
  pub record GoesRound (state : State) (numbers : List ℕ) (hops : List Hop) (to : State) : Type 0 where
    pub at : State
    pub leads : Leads setting rtype state numbers hops at
    pub like : StandAlike at to
    pub uses : UsesUp state hops at

  -- a hop in front of others that rewrite at a place
  later_rewrite : (hop : Hop) (hops : List Hop) (place : Place) → RewritesAt hops place → RewritesAt (hop ∷ hops) place
  later_rewrite hop hops place (by_dname, name, has) = (by_dname, name, has_later hop hops (Rewrite place by_dname name) has)

  -- a referral in front of hops makes no rewrite
  no_referral : (cut : Cut) (hops : List Hop) (place : Place) → RewritesAt (Refer cut ∷ hops) place → RewritesAt hops place
  no_referral cut hops place (by_dname, name, has) =
      elim (first_or_later (Refer cut) hops (Rewrite place by_dname name) has) [
        | inl same ↦ (let same : Refer cut ≡ Rewrite place by_dname name = same in cc)
        | inr later ↦ (by_dname, name, later)
      ]

  uses_step : (state via : State) (hop : Hop) (hops : List Hop) (to : State) → GoesDown setting state (Go hop via) → UsesUp via hops to → UsesUp state (hop ∷ hops) to
  uses_step state via (Refer cut) hops to (name, used, longer) uses =
      record {
        up = omega (arith, uses.up);
        within = λ few. uses.within (omega arith);
        rises = λ place at. (let more = uses.rises place (no_referral cut hops place at) in (omega (arith, more.0), more.1));
      }
  uses_step state via (Rewrite place by_dname name) hops to (left, used) uses =
      let few : via.used ≤ setting.rewrites = omega arith in
      let most : to.used ≤ setting.rewrites = uses.within few in
      record { up = omega (arith, uses.up); within = λ _. most; rises = λ at has. (omega (arith, uses.up), most) }

  around : (numbers : List ℕ) (hops : List Hop) (state to other : State) → Leads setting rtype state numbers hops to → StandAlike other state
      → GoesRound other numbers hops to ⊎ LimitAhead other hops
  around [] [] state to other same like =
      inl (record {
        at = other;
        leads = refl;
        like = record { server = like.server ∙ ap (λ (s : State). s.server) same; name = like.name ∙ ap (λ (s : State). s.name) same };
        uses = record { up = omega arith; within = λ few. few; rises = λ place (by_dname, name, has). absurd (none_in_nil (Rewrite place by_dname name) has) };
      })
  around [] (hop ∷ hops) state to other none like = absurd none
  around (number ∷ numbers) [] state to other none like = absurd none
  around (number ∷ numbers) (hop ∷ hops) state to other (via, is, leads) like =
      by (same_step state other like number hop via is) (λ too alike. around numbers hops via to too leads alike)
    where
      on : (too : State) → slice_get (next setting rtype other) number ≡ Some (Go hop too)
          → GoesRound too numbers hops to ⊎ LimitAhead too hops → GoesRound other (number ∷ numbers) (hop ∷ hops) to ⊎ LimitAhead other (hop ∷ hops)
      on too goes (inl round) =
          inl (record {
            at = round.at;
            leads = (too, goes, round.leads);
            like = round.like;
            uses = uses_step other too hop hops round.at
                (item (GoesDown setting other) (next setting rtype other) number (Go hop too) (goes_down setting rtype other) goes) round.uses;
          })
      on too goes (inr ahead) =
          inr (record {
            place = ahead.place;
            rewrites_at = later_rewrite hop hops ahead.place ahead.rewrites_at;
            numbers = number ∷ ahead.numbers;
            hops = hop ∷ ahead.hops;
            at = ahead.at;
            leads = (too, goes, ahead.leads);
            limit = ahead.limit;
          })

      by : GoesAlike number (next setting rtype other) hop via ⊎ AtItsLimit (next setting rtype other) hop
          → ((too : State) → StandAlike too via → GoesRound too numbers hops to ⊎ LimitAhead too hops)
          → GoesRound other (number ∷ numbers) (hop ∷ hops) to ⊎ LimitAhead other (hop ∷ hops)
      by (inl (too, goes, alike)) rest = on too goes (rest too alike)
      by (inr (place, by_dname, name, is_rewrite, limit)) rest =
          inr (record {
            place = place;
            rewrites_at = (by_dname, name, subst (λ (h : Hop). Contains (h ∷ hops) (Rewrite place by_dname name)) (sym is_rewrite) (has_first (Rewrite place by_dname name) hops));
            numbers = [];
            hops = [];
            at = other;
            leads = refl;
            limit = limit;
          })

  -- ---- there is a rewrite on the way round

  -- a way makes a rewrite, or keeps the name and makes the origin longer with each hop
  rewrite_or_longer : (numbers : List ℕ) (hops : List Hop) (state to : State) → Leads setting rtype state numbers hops to
      → ((place : Place) × RewritesAt hops place)
      ⊎ ((to.name ≡ state.name) × (origin_labels setting.config state + length hops ≤ origin_labels setting.config to))
  rewrite_or_longer [] [] state to same =
      let labels : origin_labels setting.config state ≡ origin_labels setting.config to = ap (origin_labels setting.config) same in
      inr (sym (ap (λ (s : State). s.name) same), omega arith)
  rewrite_or_longer [] (hop ∷ hops) state to none = absurd none
  rewrite_or_longer (number ∷ numbers) [] state to none = absurd none
  rewrite_or_longer (number ∷ numbers) (hop ∷ hops) state to (via, is, leads) =
      by hop (item (GoesDown setting state) (next setting rtype state) number (Go hop via) (goes_down setting rtype state) is)
      (rewrite_or_longer numbers hops via to leads)
    where
      by : (hop : Hop) → GoesDown setting state (Go hop via)
          → ((place : Place) × RewritesAt hops place) ⊎ ((to.name ≡ via.name) × (origin_labels setting.config via + length hops ≤ origin_labels setting.config to))
          → ((place : Place) × RewritesAt (hop ∷ hops) place)
          ⊎ ((to.name ≡ state.name) × (origin_labels setting.config state + length (hop ∷ hops) ≤ origin_labels setting.config to))
      by (Rewrite place by_dname name) down later = inl (place, (by_dname, name, has_first (Rewrite place by_dname name) hops))
      by (Refer cut) down (inl (place, at)) = inl (place, later_rewrite (Refer cut) hops place at)
      by (Refer cut) (kept, used, longer) (inr (name, more)) = inr (name ∙ kept, omega (arith, longer, more))

  some_rewrite : (numbers : List ℕ) (hop : Hop) (hops : List Hop) (state to : State) → Leads setting rtype state numbers (hop ∷ hops) to → StandAlike to state
      → (place : Place) × RewritesAt (hop ∷ hops) place
  some_rewrite numbers hop hops state to leads like =
      elim (rewrite_or_longer numbers (hop ∷ hops) state to leads) [
        | inl there ↦ there
        | inr (name, longer) ↦ (
            let same : origin_labels setting.config to ≡ origin_labels setting.config state =
            ap (λ (server : Labels). option_map_or (λ zone. length zone.origin) (nearest_of setting.config server to.name) 0) like.server
            ∙ ap (λ (n : Labels). option_map_or (λ zone. length zone.origin) (nearest_of setting.config state.server n) 0) like.name in
            absurd (omega (arith, same, longer)))
      ]

  -- ---- round and round

  leads_then : (front back : List ℕ) (hops more : List Hop) (from via to : State) → Leads setting rtype from front hops via → Leads setting rtype via back more to
      → Leads setting rtype from (front ++ back) (hops ++ more) to
  leads_then [] back [] more from via to same leads = subst (λ (s : State). Leads setting rtype s back more to) (sym same) leads
  leads_then [] back (hop ∷ hops) more from via to none leads = absurd none
  leads_then (number ∷ front) back [] more from via to none leads = absurd none
  leads_then (number ∷ front) back (hop ∷ hops) more from via to (next_state, is, first) leads =
      (next_state, is, leads_then front back hops more next_state via to first leads)

  module _ (numbers : List ℕ) (hops : List Hop) (first again : State) (leads : Leads setting rtype first numbers hops again)
      (back : StandAlike again first) (rewrite : (place : Place) × RewritesAt hops place) where
    -- what is ahead after a round is ahead before it
    ahead_of_round : (state : State) → (round : GoesRound state numbers hops again) → LimitAhead round.at hops → LimitAhead state hops
    ahead_of_round state round ahead =
        record {
          place = ahead.place;
          rewrites_at = ahead.rewrites_at;
          numbers = numbers ++ ahead.numbers;
          hops = hops ++ ahead.hops;
          at = ahead.at;
          leads = leads_then numbers ahead.numbers hops ahead.hops state round.at ahead.at round.leads ahead.leads;
          limit = ahead.limit;
        }

    round_and_round : (left : ℕ) (state : State) → StandAlike state first → setting.rewrites ≤ left + state.used → LimitAhead state hops
    round_and_round zero state like bound = by (around numbers hops first again state leads like) where
      by : GoesRound state numbers hops again ⊎ LimitAhead state hops → LimitAhead state hops
      by (inr ahead) = ahead
      by (inl round) = let more = round.uses.rises rewrite.0 rewrite.1 in absurd (omega (arith, more.0, more.1))
    round_and_round (suc left) state like bound =
        by (around numbers hops first again state leads like) (λ on on_like few. round_and_round left on on_like few)
      where
        by : GoesRound state numbers hops again ⊎ LimitAhead state hops
            → ((on : State) → StandAlike on first → setting.rewrites ≤ left + on.used → LimitAhead on hops) → LimitAhead state hops
        by (inr ahead) rest = ahead
        by (inl round) rest =
            let more = round.uses.rises rewrite.0 rewrite.1 in
            ahead_of_round state round
            (rest round.at (record { server = round.like.server ∙ back.server; name = round.like.name ∙ back.name }) (omega (arith, more.0, bound)))

-- ---- so the query has a walk that ends at the limit

-- at a rewrite that the walk makes between two states with one server and one name, some walk of the query ends at the
-- limit
abbrev pub LimitBetween : Setting → Labels → RrType → (walk : Walk) → ComesBack walk → Type 0
LimitBetween setting query rtype walk back =
    (place : Place) × RewritesAt (hops_round walk back) place × (limit : Walk) × IsWalk setting query rtype limit × ShowsLimit limit place

module _ (setting : Setting) (query : Labels) (rtype : RrType) where
  -- the way to a state and the limit ahead of it make a walk
  limit_walk : (number : ℕ) (start_state state : State) (before : List ℕ) (hops round : List Hop)
      → slice_get (start setting.config query) number ≡ Some start_state → Leads setting rtype start_state before hops state
      → LimitAhead setting rtype state round
      → (place : Place) × RewritesAt round place × (limit : Walk) × IsWalk setting query rtype limit × ShowsLimit limit place
  limit_walk number start_state state before hops round starts leads ahead =
      let last : walk_from setting rtype (0 ∷ []) ahead.at ≡ Some (record { states = ahead.at ∷ []; hops = []; leaf = Limit ahead.place }) =
      ap (λ (branches : List Branch). branched ahead.at true (walk_from setting rtype []) (slice_get branches 0)) ahead.limit in
      let whole =
      leads_walk setting rtype (before ++ ahead.numbers) (0 ∷ []) (hops ++ ahead.hops) start_state ahead.at
      (record { states = ahead.at ∷ []; hops = []; leaf = Limit ahead.place })
      (leads_then setting rtype before ahead.numbers hops ahead.hops start_state state ahead.at leads ahead.leads) last in (
        ahead.place,
        ahead.rewrites_at,
        whole.walk,
        (
          number ∷ ((before ++ ahead.numbers) ++ 0 ∷ []),
          begun_walk setting query rtype number ((before ++ ahead.numbers) ++ 0 ∷ []) start_state whole.walk starts whole.is_walk,
        ),
        whole.leaf,
      )

  -- a walk of a query that comes back to a server and a name rewrites in between at a place at which a walk of the query,
  -- with the same type, ends at the limit
  pub limit_between : (walk : Walk) → IsWalk setting query rtype walk → (back : ComesBack walk) → LimitBetween setting query rtype walk back
  limit_between walk (numbers, e) back =
      let begun = begins_at setting query rtype numbers walk e in
      let there =
      walk_leads setting rtype back.before (back.between ++ back.again ∷ back.after) begun.rest begun.state back.first walk begun.goes back.states in
      let again =
      walk_leads setting rtype (back.first ∷ back.between) back.after there.after back.first back.again
      (record { states = back.first ∷ (back.between ++ back.again ∷ back.after); hops = drop (length back.before) walk.hops; leaf = walk.leaf })
      there.rest refl in
      let like : StandAlike back.again back.first = record { server = sym back.server; name = sym back.name } in
      by begun.number begun.state there.before (take (length back.before) walk.hops) begun.starts there.leads again.before (hops_round walk back) again.leads
      (λ none. (let size : length {A = ℕ} [] ≡ length (back.first ∷ back.between) = ap (λ (ns : List ℕ). length ns) (sym none) ∙ again.as_many in omega arith)) like
    where
      by : (number : ℕ) (start_state : State) (before : List ℕ) (hops : List Hop)
          → slice_get (start setting.config query) number ≡ Some start_state → Leads setting rtype start_state before hops back.first
          → (numbers : List ℕ) (round : List Hop) → Leads setting rtype back.first numbers round back.again → numbers ≢ [] → StandAlike back.again back.first
          → (place : Place) × RewritesAt round place × (limit : Walk) × IsWalk setting query rtype limit × ShowsLimit limit place
      by number start_state before hops starts leads [] [] same some like = absurd (some refl)
      by number start_state before hops starts leads [] (hop ∷ round) none some like = absurd none
      by number start_state before hops starts leads (n ∷ numbers) [] none some like = absurd none
      by number start_state before hops starts leads (n ∷ numbers) (hop ∷ round) goes some like =
          limit_walk number start_state back.first before hops (hop ∷ round) starts leads
          (round_and_round setting rtype (n ∷ numbers) (hop ∷ round) back.first back.again goes like
          (some_rewrite setting rtype (n ∷ numbers) hop round back.first back.again goes like) setting.rewrites back.first
          (record { server = refl; name = refl }) (omega arith))

-- a query with a walk that comes back to a server and a name shows the rewrite limit, with the set in force, at a
-- rewrite on the round. The way between the two states rewrites somewhere (some_rewrite): by referrals alone the name
-- stays and the origin grows (EndsSomewhere.goes_down). A step asks the server and the name alone, so from a state that
-- stands alike the same numbers lead to one that stands alike, unless no rewrite is left at one of the hops (same_step,
-- around). Each round uses up a rewrite, so after as many rounds as there are rewrites none is left at a hop of the
-- round (round_and_round); the way there, gone branch by branch (Leads.leads_walk), is a walk that ends at the limit
-- (limit_walk).
pub limit_shown : (config : Config) (rewrites : ℕ) (followed : List Labels) → IsInForce config rewrites followed
    → (query : Labels) (rtype : RrType) (walk : Walk) → IsWalk (following config rewrites followed) query rtype walk
    → (back : ComesBack walk) → (place : Place) × RewritesAt (hops_round walk back) place × ShowsIn config rewrites query rtype (faults.Limit place)
limit_shown config rewrites followed in_force query rtype walk is back =
    let found = limit_between (following config rewrites followed) query rtype walk is back in (
      found.0,
      found.1,
      record {
        followed = followed;
        in_force = in_force;
        shows = record { walks = found.2 ∷ []; by = record { may = tt; are_walks = (found.3, tt); show = found.4 } };
      },
    )
