-- In the graph of a query the branches of an arm are the referrals of one zone cut, or none of them is a referral.
use Rattle.std.proofs.Common.{◌≡◌, ◌+◌, Bool, true, false, cond, List, [], ◌∷◌, map, Option, Some, None, refl, sym, ap, ◌∙◌, subst, inl, inr}
use Rattle.std.specs.Prelude.{◌&&◌, not, nat_lt, length}
use Rattle.std.specs.List.{AllByRecursion, AllZip}
use Rattle.std.proofs.lemmas.Bool.{and_parts}
use Rattle.dns_data.specs.Name.{Labels, is_prefix}
use Rattle.dns_data.specs.declared.rr_type.RrType.{RrType}
use Rattle.dns_data.specs.declared.rr_type.RrType.TheVariants as types
use Rattle.dns_data.proofs.Searches.{found_there}
use Rattle.graph_form.specs.Branches.{hop_of}
use Rattle.graph_form.specs.Graph.{PlainGraph}
use Rattle.graph_form.specs.GraphOf.{TellsStep}
use Rattle.graph_form.specs.declared.node.Branch.{Branch}
use Rattle.graph_form.specs.declared.node.Branch.TheVariants.{Go, End}
use Rattle.graph_form.proofs.Places.{place_of_item}
use Rattle.net_model.specs.Lookup.{ByCut, answered, deciding, dname_owner, found, zone_cut}
use Rattle.net_model.specs.Nearest.{is_configured, nearest_of}
use Rattle.net_model.specs.Prefix.{prefixes}
use Rattle.net_model.specs.Step.{Setting, after_lookup, arrived, delegated, in_zone, may_follow, next, referred, servers_after}
use Rattle.net_model.specs.Step as step
use Rattle.net_model.specs.Zone.{exists_in, ns_names, owns}
use Rattle.net_model.specs.declared.config.Config.{Config}
use Rattle.net_model.specs.declared.config.Zone.{Zone}
use Rattle.net_model.specs.declared.found.Found.{Found}
use Rattle.net_model.specs.declared.found.Found.TheVariants as found_as
use Rattle.net_model.specs.declared.place.Cut.{Cut}
use Rattle.net_model.specs.declared.place.Place.{Place}
use Rattle.net_model.specs.declared.walk.Hop.{Hop}
use Rattle.net_model.specs.declared.walk.Hop.TheVariants.{Refer, Rewrite}
use Rattle.net_model.specs.declared.walk.State.{State}
use Rattle.net_model.proofs.NearestZones.{nearest_is_held, nearest_tells}
use Rattle.net_model.proofs.OpenTails.{owner_exists}
use Rattle.net_model.proofs.StepBounds.{cut_refers, is_the_cut}
use Rattle.zone_lookup.proofs.CutsInside.{cut_inside}
use Rattle.delegation_checks.specs.Delegations.{IsGraphIn}
use Rattle.delegation_checks.specs.Referrals.{GraphRefers, IsNoReferral, RefersByOne}

module _ (zone : Zone) (name : Labels) (rtype : RrType) (cut : Labels) (names : List Labels) (is : found zone name rtype ≡ found_as.Referral cut names) where
  by_cut : deciding zone name ≡ ByCut cut
  by_cut = cut_refers zone name rtype cut names (deciding zone name) is

  -- a referral is to the name servers of the zone cut
  to_servers : names ≡ ns_names zone cut
  to_servers = let told : found_as.Referral cut names ≡ found_as.Referral cut (ns_names zone cut) = sym is ∙ ap (answered zone name rtype) by_cut in cc

  -- the zone cut of a referral exists in the zone
  cut_exists : is_prefix zone.origin cut ≡ true → exists_in zone cut ≡ true
  cut_exists inside =
      let of : zone_cut zone name ≡ Some cut = is_the_cut zone name rtype cut names (zone_cut zone name) (dname_owner zone name) by_cut in
      let both = found_there (λ (above : Labels). nat_lt (length zone.origin) (length above) && owns zone above types.Ns) (prefixes name) cut of in
      owner_exists zone cut types.Ns inside (and_parts (nat_lt (length zone.origin) (length cut)) (owns zone cut types.Ns) both.1).1

-- ---- the hops of a state's steps

-- the hop of a step
abbrev step_hop : step.Branch → Option Hop
step_hop (step.Go hop state) = Some hop
step_hop (step.End hop leaf) = hop

-- no step is a referral
abbrev NoneRefers : List step.Branch → Type 0
NoneRefers steps = AllByRecursion IsNoReferral (map step_hop steps)

-- the step is the referral
abbrev Refers : Cut → step.Branch → Type 0
Refers cut one = step_hop one ≡ Some (Refer cut)

either : {X : Type 0} (P : X → Type 0) (b : Bool) (one other : X) → P one → P other → P (cond b one other)
either P true one other this that = this
either P false one other this that = that

module _ (setting : Setting) (state : State) where
  of_delegated : (cut : Cut) (zone : Option Zone) → Refers cut (delegated state cut zone)
  of_delegated cut None = refl
  of_delegated cut (Some zone) = either (Refers cut) (is_prefix cut.cut zone.origin) _ _ refl refl

  -- the step of a referral has its hop
  of_referred : (cut : Cut) → Refers cut (referred setting state cut)
  of_referred cut =
      either (Refers cut) (not (is_configured setting.config cut.ns)) _ _ refl
      (either (Refers cut) (not (may_follow setting.config cut setting.followed)) _ _ refl
      (of_delegated cut (nearest_of setting.config cut.ns state.name)))

  of_names : (to : Labels → Cut) (names : List Labels)
      → map step_hop (map (λ ns. referred setting state (to ns)) names) ≡ map (λ cut. Some (Refer cut)) (map to names)
  of_names to [] = refl
  of_names to (ns ∷ names) =
      ap (λ (hop : Option Hop). hop ∷ map step_hop (map (λ n. referred setting state (to n)) names)) (of_referred (to ns))
      ∙ ap (λ (hops : List (Option Hop)). Some (Refer (to ns)) ∷ hops) (of_names to names)

  of_servers : (place : Place) (by_dname : Bool) (to : Labels) (servers : List Labels)
      → NoneRefers (map (λ server. step.Go (Rewrite place by_dname to) (arrived setting.config to (state.carried && by_dname) (state.used + 1) (Some place) server)) servers)
  of_servers place by_dname to [] = tt
  of_servers place by_dname to (server ∷ servers) = (tt, of_servers place by_dname to servers)

  of_found : (rtype : RrType) (zone : Zone) → nearest_of setting.config state.server state.name ≡ Some zone → (what : Found) → found zone state.name rtype ≡ what
      → RefersByOne setting.config (map step_hop (after_lookup setting state zone.origin what))
  of_found rtype zone near (found_as.Answer rdata) is = inl (tt, tt)
  of_found rtype zone near found_as.NoData is = inl (tt, tt)
  of_found rtype zone near found_as.NxDomain is = inl (tt, tt)
  of_found rtype zone near (found_as.Referral cut names) is =
      let inside : is_prefix zone.origin cut ≡ true =
      cut_inside zone state.name rtype cut names (nearest_tells setting.config state.server state.name zone near).1 is in
      let to : Labels → Cut = λ ns. record { server = state.server; zone = zone.origin; cut = cut; ns = ns } in
      inr
      (record {
        server = state.server;
        zone = zone;
        cut = cut;
        held = nearest_is_held setting.config state.server state.name zone near;
        inside = inside;
        there = cut_exists zone state.name rtype cut names is inside;
        are = of_names to names ∙ ap (λ (all : List Labels). map (λ (c : Cut). Some (Refer c)) (map to all)) (to_servers zone state.name rtype cut names is);
      })
  of_found rtype zone near (found_as.Rewrite by_dname owner to) is =
      inl (either NoneRefers (nat_lt state.used setting.rewrites) _ _ (of_servers _ by_dname to (servers_after setting.config state to)) (tt, tt))
  of_found rtype zone near (found_as.TooLong owner) is = inl (either NoneRefers (nat_lt state.used setting.rewrites) _ _ (tt, tt) (tt, tt))

  -- the steps of a state are the referrals of one zone cut, or none of them is a referral
  next_refers : (rtype : RrType) → RefersByOne setting.config (map step_hop (next setting rtype state))
  next_refers rtype = by (nearest_of setting.config state.server state.name) refl where
    by : (zone : Option Zone) → nearest_of setting.config state.server state.name ≡ zone → RefersByOne setting.config (map step_hop (in_zone setting rtype state zone))
    by None is = inl (tt, tt)
    by (Some zone) is = of_found rtype zone is (found zone state.name rtype) refl

-- ---- the arms of a graph

same_hop : (graph : PlainGraph) (branch : Branch) (told : step.Branch) → TellsStep graph branch told → hop_of branch ≡ step_hop told
same_hop graph (Go hop to) told tells = sym (ap step_hop tells.1)
same_hop graph (End hop leaf) told tells = sym (ap step_hop tells)

same_hops : (graph : PlainGraph) (branches : List Branch) (steps : List step.Branch) → AllZip (TellsStep graph) branches steps
    → map hop_of branches ≡ map step_hop steps
same_hops graph [] [] tell = refl
same_hops graph [] (one ∷ steps) tell = absurd tell
same_hops graph (branch ∷ branches) [] tell = absurd tell
same_hops graph (branch ∷ branches) (one ∷ steps) tell =
    ap (λ (hop : Option Hop). hop ∷ map hop_of branches) (same_hop graph branch one tell.0)
    ∙ ap (λ (hops : List (Option Hop)). step_hop one ∷ hops) (same_hops graph branches steps tell.1)

-- the branches of each arm of the graph of a query in the configuration are the referrals of one zone cut, or none is one
pub graph_refers : (config : Config) (setting : Setting) (query : Labels) (graph : PlainGraph) → IsGraphIn config setting query graph → GraphRefers config graph
graph_refers config setting query graph for = λ node has arm has_arm rtype typed.
    let (at, here) = place_of_item graph.nodes node has in
    let tell : AllZip (TellsStep graph) arm.branches (next setting rtype node.state) =
    for.is_graph.steps at node arm rtype (record { is_node = here; has_arm = has_arm }) typed in
    subst (RefersByOne config) (sym (same_hops graph arm.branches (next setting rtype node.state) tell))
    (subst (λ (c : Config). RefersByOne c (map step_hop (next setting rtype node.state))) for.config_is (next_refers setting node.state rtype))
