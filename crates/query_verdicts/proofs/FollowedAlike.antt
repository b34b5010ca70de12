-- While servers are followed with which every configured one may be, walks are those while every configured server is
-- followed.
use Rattle.std.proofs.Common.{◌≡◌, ◌∙◌, ℕ, ◌||◌, Bool, true, false, not, List, [], ◌∷◌, map, length, ◌⊎◌, Option, Some, None, Contains, refl, sym, ap, subst, inl, inr, ◌==◌, true≢false}
use Rattle.std.specs.Prelude.{slice_get, option_and_then, option_map, if◌then◌else◌}
use Rattle.std.specs.BTreeSet as tree
use Rattle.std.specs.List.{AllZip, list_all, list_any}
use Rattle.std.proofs.lemmas.Bool.{or_cases, or_left}
use Rattle.dns_data.specs.Name.{Labels, name_cmp, name_eq, is_among}
use Rattle.dns_data.specs.declared.rr_type.RrType.{RrType}
use Rattle.dns_data.proofs.Membership.{from_map}
use Rattle.dns_data.proofs.Names.{name_eq_decides}
use Rattle.dns_data.proofs.Searches.{each_of_all, from_any}
use Rattle.zone_lookup.specs.LearntSets.{IsSetOf}
use Rattle.graph_form.specs.Graph.{PlainGraph}
use Rattle.graph_form.specs.GraphOf.{IsExactIn, IsGraphOf, TellsStep}
use Rattle.interp_graph.specs.Asked.{IsBuilt}
use Rattle.net_model.specs.declared.config.Config.{Config}
use Rattle.net_model.specs.declared.config.Server.{Server}
use Rattle.net_model.specs.declared.config.Zone.{Zone}
use Rattle.net_model.specs.declared.found.Found.{Found}
use Rattle.net_model.specs.declared.found.Found.TheVariants as found_as
use Rattle.net_model.specs.declared.place.Cut.{Cut}
use Rattle.net_model.specs.declared.walk.Hop.TheVariants.{Refer}
use Rattle.net_model.specs.declared.walk.Leaf.TheVariants.{NoAddress, Unhosted}
use Rattle.net_model.specs.declared.walk.State.{State}
use Rattle.net_model.specs.declared.walk.Walk.{Walk}
use Rattle.net_model.specs.Lookup.{found}
use Rattle.net_model.specs.Nearest.{is_configured, is_top, nearest_of, server_names}
use Rattle.net_model.specs.Step.{Setting, Branch, Go, End, following, may_follow, has_glue, delegated, referred, after_lookup, in_zone, next, start}
use Rattle.net_model.specs.Walk.{IsWalk, branched, led_on, walk_along, walk_from}
use Rattle.net_model.proofs.Followed.{names_follow_all}
use Rattle.query_verdicts.specs.Learnt.{FollowsAll}

module _ (config : Config) (rewrites : ℕ) (followed : List Labels) (all : FollowsAll config followed) where
  abbrev some : Setting
  some = following config rewrites followed

  abbrev every : Setting
  every = following config rewrites (server_names config)

  -- ---- steps

  referral : (state : State) (cut : Cut) → referred some state cut ≡ referred every state cut
  referral state cut =
      by (is_configured config cut.ns) (may_follow config cut followed) (may_follow config cut (server_names config)) (all cut) (names_follow_all config rewrites cut)
    where
      by : (configured may also : Bool) → (configured ≡ true → may ≡ true) → (configured ≡ true → also ≡ true)
          → (if not configured then End (Some (Refer cut)) (Unhosted cut.ns)
          else (if not may then End (Some (Refer cut)) (NoAddress cut.ns) else delegated state cut (nearest_of config cut.ns state.name)))
          ≡ (if not configured then End (Some (Refer cut)) (Unhosted cut.ns)
          else (if not also then End (Some (Refer cut)) (NoAddress cut.ns) else delegated state cut (nearest_of config cut.ns state.name)))
      by false may also one other = refl
      by true true true one other = refl
      by true false also one other = absurd (true≢false (sym (one refl)))
      by true true false one other = absurd (true≢false (sym (other refl)))

  referrals : (state : State) (to : Labels → Cut) (names : List Labels)
      → map (λ ns. referred some state (to ns)) names ≡ map (λ ns. referred every state (to ns)) names
  referrals state to [] = refl
  referrals state to (ns ∷ names) =
      ap (λ (b : Branch). b ∷ map (λ n. referred some state (to n)) names) (referral state (to ns))
      ∙ ap (λ (bs : List Branch). referred every state (to ns) ∷ bs) (referrals state to names)

  looked_up : (state : State) (origin : Labels) (what : Found) → after_lookup some state origin what ≡ after_lookup every state origin what
  looked_up state origin (found_as.Answer rdata) = refl
  looked_up state origin found_as.NoData = refl
  looked_up state origin found_as.NxDomain = refl
  looked_up state origin (found_as.Referral cut names) =
      referrals state (λ ns. record { server = state.server; zone = origin; cut = cut; ns = ns }) names
  looked_up state origin (found_as.Rewrite by_dname owner to) = refl
  looked_up state origin (found_as.TooLong owner) = refl

  same_next : (rtype : RrType) (state : State) → next some rtype state ≡ next every rtype state
  same_next rtype state = by (nearest_of config state.server state.name) where
    by : (zone : Option Zone) → in_zone some rtype state zone ≡ in_zone every rtype state zone
    by None = refl
    by (Some zone) = looked_up state zone.origin (found zone state.name rtype)

  -- ---- walks

  module _ (rtype : RrType) where
    same_from : (numbers : List ℕ) (state : State) → walk_from some rtype numbers state ≡ walk_from every rtype numbers state
    same_from [] state = refl
    same_from (number ∷ numbers) state =
        ap (λ (steps : List Branch). branched state (length numbers == 0) (walk_from some rtype numbers) (slice_get steps number)) (same_next rtype state)
        ∙ by (slice_get (next every rtype state) number) (same_from numbers)
      where
        by : (branch : Option Branch) → ((to : State) → walk_from some rtype numbers to ≡ walk_from every rtype numbers to)
            → branched state (length numbers == 0) (walk_from some rtype numbers) branch ≡ branched state (length numbers == 0) (walk_from every rtype numbers) branch
        by None rest = refl
        by (Some (Go hop to)) rest = ap (λ (later : Option Walk). option_map (led_on state hop) later) (rest to)
        by (Some (End hop leaf)) rest = refl

    same_along : (query : Labels) (numbers : List ℕ) → walk_along some query rtype numbers ≡ walk_along every query rtype numbers
    same_along query [] = refl
    same_along query (number ∷ numbers) = by (slice_get (start config query) number) where
      by : (state : Option State) → option_and_then (walk_from some rtype numbers) state ≡ option_and_then (walk_from every rtype numbers) state
      by None = refl
      by (Some state) = same_from numbers state

  same_walk : (query : Labels) (rtype : RrType) (walk : Walk) → IsWalk every query rtype walk → IsWalk some query rtype walk
  same_walk query rtype walk (numbers, is) = (numbers, same_along rtype query numbers ∙ is)

  -- ---- so the graph is the same

  module _ (query : Labels) (graph : PlainGraph) (built : IsBuilt config rewrites query graph) where
    -- the graph of a query's walks while every configured server is followed is that while these servers are
    pub same_graph : IsGraphOf some query graph
    same_graph =
        record {
          steps = λ at node arm rtype is has.
              subst (λ (steps : List Branch). AllZip (TellsStep graph) arm.branches steps) (sym (same_next rtype node.state))
              (built.is_graph.steps at node arm rtype is has);
          closed = built.is_graph.closed;
          starts = built.is_graph.starts;
          all_types = built.is_graph.all_types;
          apart = built.is_graph.apart;
        }

    -- the graph has no more than the query's walks, also while these servers are followed
    pub same_exact : IsExactIn some query graph
    same_exact =
        record {
          one_node = built.exact.one_node;
          reached = λ pair has.
              let on = built.exact.reached pair has in
              record { walk = on.walk; is_walk = same_walk query pair.1 on.walk on.is_walk; stands = on.stands };
        }

-- ---- where each configured server is a top server or followed, it may be followed

-- the server is a top server or a learnt one
abbrev pub is_in : tree.BTreeSet Labels → List Labels → Server → Bool
is_in tops learnt server = tree.contains name_cmp tops server.name || is_among learnt server.name

module _ (config : Config) (followed : List Labels) (tops : tree.BTreeSet Labels) (are_tops : IsSetOf config.tops tops) where
  -- where each configured server is a top server or followed, every configured one may be followed
  pub all_in : list_all (is_in tops followed) config.servers ≡ true → FollowsAll config followed
  all_in each cut configured =
      by_name (or_cases (is_top config cut.ns || has_glue config cut) (list_any (name_eq cut.ns) (server_names config)) (names_follow_all config 0 cut configured))
    where
      by_server : (top glue among : Bool) → (top ≡ true) ⊎ (among ≡ true) → (top || glue || among) ≡ true
      by_server true glue among is = refl
      by_server false glue among (inl is) = absurd (true≢false (sym is))
      by_server false true among (inr is) = refl
      by_server false false among (inr is) = is

      of_server : (server : Server) → Contains config.servers server → server.name ≡ cut.ns
          → (is_top config cut.ns ≡ true) ⊎ (list_any (name_eq cut.ns) followed ≡ true)
      of_server server has same =
          elim (or_cases (tree.contains name_cmp tops server.name) (is_among followed server.name) (each_of_all (is_in tops followed) config.servers each server has)) [
            | inl top ↦ inl (subst (λ (n : Labels). is_top config n ≡ true) same (sym (are_tops server.name) ∙ top))
            | inr among ↦ inr (subst (λ (n : Labels). list_any (name_eq n) followed ≡ true) same among)
          ]

      by_name : ((is_top config cut.ns || has_glue config cut) ≡ true) ⊎ (list_any (name_eq cut.ns) (server_names config) ≡ true)
          → may_follow config cut followed ≡ true
      by_name (inl known) = or_left (is_top config cut.ns || has_glue config cut) (list_any (name_eq cut.ns) followed) known
      by_name (inr named) =
          let (name, has, same) = from_any (name_eq cut.ns) (server_names config) named in
          let (server, there, is) = from_map (λ (server : Server). server.name) config.servers name has in
          by_server (is_top config cut.ns) (has_glue config cut) (list_any (name_eq cut.ns) followed)
          (of_server server there (is ∙ sym ((name_eq_decides cut.ns name).0 same)))
