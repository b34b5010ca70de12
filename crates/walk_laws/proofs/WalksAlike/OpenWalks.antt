-- Walks of a name and of it with another tail, where no server that walks of the name come to knows more of it than what
-- stands above the tail: though the configuration may name both, elsewhere.
use Rattle.std.proofs.Common.{◌≡◌, ◌≢◌, ◌+◌, ◌≤◌, Bool, true, false, List, [], ◌∷◌, ◌++◌, map, length, Contains, Option, Some, None, is_some, option_map, sym, refl, ap, ◌∙◌, subst, subst₂, inl}
use Rattle.std.specs.Prelude.{nat_lt, nat_le, ◌&&◌, if◌then◌else◌}
use Rattle.std.proofs.lemmas.Bool.{le-leb}
use Rattle.std.proofs.lemmas.List.{append_cancel_right}
use Rattle.std.proofs.lemmas.Simd.{map-map}
use Rattle.dns_data.specs.Name.{Labels, wire_octets, swap}
use Rattle.dns_data.specs.declared.rr_type.RrType.{RrType}
use Rattle.dns_data.proofs.Membership.{has_first, item_there, map_has}
use Rattle.net_model.specs.declared.config.Config.{Config}
use Rattle.net_model.specs.declared.config.Zone.{Zone}
use Rattle.net_model.specs.declared.found.Found.TheVariants as found_as
use Rattle.net_model.specs.declared.place.Place.{Place}
use Rattle.net_model.specs.declared.walk.Hop.{Hop}
use Rattle.net_model.specs.declared.walk.Hop.TheVariants.{Rewrite}
use Rattle.net_model.specs.declared.walk.Leaf.TheVariants.{Limit}
use Rattle.net_model.specs.declared.walk.State.{State}
use Rattle.net_model.specs.Lookup.{Deciding, ByRedirection, answered, found}
use Rattle.net_model.specs.Nearest.{nearest_of}
use Rattle.net_model.specs.OpenTail.{open_deciding}
use Rattle.net_model.specs.Retail.{retailed_name, retailed_state}
use Rattle.net_model.specs.Step.{Setting, Branch, Go, End, after_lookup, arrived, in_zone, next, rewritten, servers_after, start}
use Rattle.net_model.specs.Tails.{WalksAs}
use Rattle.net_model.proofs.OpenTails.{open_tail}
use Rattle.walk_laws.proofs.WalksAlike.AlikeSteps.{Alike, AreNear, AreOpen, StaysNear, branches_stay, carried_alike, map_same, retailed_tail, uncarried_on}
use Rattle.walk_laws.proofs.WalksAlike.AlikeWalks.{StepsAlike}
use Rattle.walk_laws.proofs.WalksAlike.QueryWalks.{walks_alike}
use Rattle.walk_laws.proofs.WalksAlike.UnnamedTails.{swapped_below}

-- the name of the state has the query's tail, which is open in the zone that its server asks, as the other one is; and with
-- that it isn't too long
pub record OpensAt (config : Config) (own other : Labels) (state : State) : Type 0 where
  pub above : Labels
  pub is : state.name ≡ above ++ own
  pub opens : AreOpen config state.server above own other
  pub short : wire_octets (above ++ other) ≤ 255

-- Among these states are all to which walks of the type go on from them, and both tails are open at each that carries the
-- query's.
pub record AllOpen (setting : Setting) (rtype : RrType) (own other : Labels) (Among : State → Type 0) : Type 0 where
  pub on : (state : State) → Among state → (hop : Hop) (to : State) → Contains (next setting rtype state) (Go hop to) → Among to
  pub opens : (state : State) → Among state → state.carried ≡ true → OpensAt setting.config own other state

module _ (setting : Setting) (rtype : RrType) (own other : Labels) (Among : State → Type 0) (all : AllOpen setting rtype own other Among)
    (tops : setting.config.tops ≢ []) where
  -- ---- after a rewrite by a DNAME record

  -- some server is asked for the rewritten name
  some_server : (state : State) (to : Labels) → (server : Labels) × Contains (servers_after setting.config state to) server
  some_server state to = by (is_some (nearest_of setting.config state.server to)) setting.config.tops tops where
    by : (here : Bool) (all_tops : List Labels) → all_tops ≢ [] → (server : Labels) × Contains (if here then state.server ∷ [] else all_tops) server
    by true all_tops some = (state.server, has_first state.server [])
    by false [] some = absurd (some refl)
    by false (top ∷ rest) some = (top, has_first top rest)

  -- what a state leads to whose server's zone redirects its name, where a rewrite is left and the name isn't too long
  leads_on : (state : State) (above : Labels) → state.name ≡ above ++ own → AreOpen setting.config state.server above own other → (zone : Zone)
      → nearest_of setting.config state.server above ≡ Some zone → (owner target below : Labels) → open_deciding zone above ≡ ByRedirection owner (Some target)
      → above ≡ owner ++ below → nat_lt state.used setting.rewrites ≡ true → nat_le (wire_octets ((target ++ below) ++ own)) 255 ≡ true
      → next setting rtype state
      ≡ rewritten setting.config state (record { server = state.server; zone = zone.origin; owner = owner }) true ((target ++ below) ++ own)
  leads_on state above is both zone nearest owner target below decided cut left fits =
      ap (in_zone setting rtype state) (ap (nearest_of setting.config state.server) is ∙ both.near_own state.server ∙ nearest)
      ∙ ap (λ (name : Labels). after_lookup setting state zone.origin (found zone name rtype)) is
      ∙ ap (λ (decides : Deciding). after_lookup setting state zone.origin (answered zone (above ++ own) rtype decides))
      (open_tail zone above own (both.open_own zone nearest) ∙ decided)
      ∙ ap (λ (to : Labels). after_lookup setting state zone.origin (if nat_le (wire_octets to) 255 then found_as.Rewrite true owner to else found_as.TooLong owner))
      (ap (λ (name : Labels). swap (name ++ own) owner target) cut ∙ swapped_below owner target below own)
      ∙ ap (λ (short : Bool). after_lookup setting state zone.origin (if short then found_as.Rewrite true owner ((target ++ below) ++ own) else found_as.TooLong owner)) fits
      ∙ ap (λ (more : Bool). if more then rewritten setting.config state (record { server = state.server; zone = zone.origin; owner = owner }) true ((target ++ below) ++ own)
      else End None (Limit (record { server = state.server; zone = zone.origin; owner = owner })) ∷ []) left

  -- the rewritten name is looked up in one zone with either tail
  stays_near : (state : State) → Among state → state.carried ≡ true → (at : OpensAt setting.config own other state)
      → StaysNear setting state.server state.used at.above own other
  stays_near state among carried at zone nearest owner target below decided cut left fits =
      let place : Place = record { server = state.server; zone = zone.origin; owner = owner } in
      let name : Labels = (target ++ below) ++ own in
      let some = some_server state name in
      let to : State = arrived setting.config name (state.carried && true) (state.used + 1) (Some place) some.0 in
      let leads = leads_on state at.above at.is at.opens zone nearest owner target below decided cut left fits in
      let has : Contains (next setting rtype state) (Go (Rewrite place true name) to) =
      subst (λ (branches : List Branch). Contains branches (Go (Rewrite place true name) to)) (sym leads)
      (map_has (λ (server : Labels). Go (Rewrite place true name) (arrived setting.config name (state.carried && true) (state.used + 1) (Some place) server))
      (servers_after setting.config state name) some.0 some.1) in
      let there = all.opens to (all.on state among (Rewrite place true name) to has) (ap (λ (b : Bool). b && true) carried) in
      let same : there.above ≡ target ++ below = append_cancel_right there.above (target ++ below) own (sym there.is) in
      subst (λ (front : Labels). AreNear setting.config front own other × (nat_le (wire_octets (front ++ other)) 255 ≡ true)) same
      ((λ ns. there.opens.near_other ns ∙ sym (there.opens.near_own ns)), le-leb (wire_octets (there.above ++ other)) 255 there.short)

  -- ---- each step

  -- the branches of each of the states are the same with the tail replaced, unless they end overlong
  step_alike : (state : State) → Among state
      → Alike (length own) other state.carried (next setting rtype state) (next setting rtype (retailed_state (length own) other state))
  step_alike state among = by state.carried refl where
    by : (b : Bool) → state.carried ≡ b
        → Alike (length own) other b (next setting rtype state)
        (next setting rtype (if b then record state { name = retailed_name (length own) other state.name } else state))
    by true carried =
        let at = all.opens state among carried in
        let same : state ≡ record state { name = at.above ++ own; carried = true } =
        ap (λ (name : Labels). record state { name = name }) at.is ∙ ap (λ (b : Bool). record state { name = at.above ++ own; carried = b }) carried in
        let changed : record state { name = retailed_name (length own) other state.name } ≡ record state { name = at.above ++ other; carried = true } =
        ap (λ (name : Labels). record state { name = retailed_name (length own) other name }) at.is
        ∙ ap (λ (name : Labels). record state { name = name }) (retailed_tail at.above own other)
        ∙ ap (λ (b : Bool). record state { name = at.above ++ other; carried = b }) carried in
        subst₂ (λ (s t : State). Alike (length own) other true (next setting rtype s) (next setting rtype t)) (sym same) (sym changed)
        (carried_alike setting at.above own other state.server at.opens state.cut state.used state.last state.zone
        (stays_near state among carried at) rtype)
    by false uncarried = inl (branches_stay setting rtype own other (next setting rtype state) (uncarried_on setting rtype own other state uncarried))

  -- walks go on among the states, alike
  pub steps_open : StepsAlike setting rtype own other Among
  steps_open = record {
    alike = step_alike;
    on = λ state among number hop to is. all.on state among hop to (item_there (next setting rtype state) number (Go hop to) is);
  }

-- where the query begins among such states, the name with the other tail walks as the query does
pub open_walks : (setting : Setting) (rtype : RrType) (above own other : Labels) (Among : State → Type 0) → AllOpen setting rtype own other Among
    → setting.config.tops ≢ [] → ((state : State) → Contains (start setting.config (above ++ own)) state → Among state)
    → WalksAs setting rtype above own other
open_walks setting rtype above own other Among all tops begin =
    walks_alike setting above own other rtype Among
    (record { starts = starts; among = λ number state is. begin state (item_there (start setting.config (above ++ own)) number state is) })
    (steps_open setting rtype own other Among all tops)
  where
    some_top : (all_tops : List Labels) → all_tops ≢ [] → (top : Labels) × Contains all_tops top
    some_top [] some = absurd (some refl)
    some_top (top ∷ rest) some = (top, has_first top rest)

    near : AreNear setting.config above own other
    near =
        let top = some_top setting.config.tops tops in
        let first = arrived setting.config (above ++ own) true 0 None top.0 in
        let at = all.opens first (begin first (map_has (arrived setting.config (above ++ own) true 0 None) setting.config.tops top.0 top.1)) refl in
        let same : at.above ≡ above = append_cancel_right at.above above own (sym at.is) in
        subst (λ (front : Labels). AreNear setting.config front own other) same
        (λ ns. at.opens.near_other ns ∙ sym (at.opens.near_own ns))

    start_at : Labels → Labels → Option Zone → State
    start_at server name zone =
        record { server = server; name = name; carried = true; cut = 0; used = 0; last = None; zone = option_map (λ z. z.origin) zone }

    starts : start setting.config (above ++ other) ≡ map (retailed_state (length own) other) (start setting.config (above ++ own))
    starts =
        map_same (arrived setting.config (above ++ other) true 0 None)
        (λ (server : Labels). retailed_state (length own) other (arrived setting.config (above ++ own) true 0 None server)) setting.config.tops
        (λ server. ap (start_at server (above ++ other)) (near server)
        ∙ ap (λ (name : Labels). start_at server name (nearest_of setting.config server (above ++ own))) (sym (retailed_tail above own other)))
        ∙ sym (map-map (retailed_state (length own) other) (arrived setting.config (above ++ own) true 0 None) setting.config.tops)
