-- What a graph that is made says of the query.
use Rattle.std.proofs.Common.{◌≡◌, ℕ, ◌+◌, ◌*◌, ◌<◌, ◌≤◌, Bool, true, List, [], ◌∷◌, ◌++◌, length, Option, Some, None, refl, sym, ap, ◌∙◌, subst, inl, inr, arith}
use Rattle.std.specs.Prelude.{Contains, IfSome, slice_get}
use Rattle.std.specs.List.{AllZip, IsDistinct}
use Rattle.std.proofs.lemmas.Option.{slice_get_within}
use Rattle.dns_data.specs.Name.{Labels, wire_octets}
use Rattle.dns_data.specs.declared.rr_type.RrType.{RrType}
use Rattle.dns_data.specs.declared.rr_type.RrType.TheVariants as rr
use Rattle.dns_data.proofs.DifferentItems.{fits_among}
use Rattle.name_rules.specs.SymName.{tail_labels}
use Rattle.name_rules.specs.declared.sym_name.SymName.{SymName}
use Rattle.net_model.specs.Nearest.{server_names}
use Rattle.net_model.specs.Step.{Setting, following, start}
use Rattle.net_model.specs.Tree.{IsReached, HasMoreThan}
use Rattle.net_model.specs.declared.config.Config.{Config}
use Rattle.net_model.specs.declared.walk.State.{State}
use Rattle.net_model.proofs.Counting.{no_more_than}
use Rattle.graph_form.specs.Graph.{PlainGraph, pairs_of}
use Rattle.graph_form.specs.GraphOf.{IsExact, IsGraphOf}
use Rattle.graph_form.specs.declared.node.Arm.{Arm}
use Rattle.graph_form.proofs.Places.{item_there}
use Rattle.graph_form.proofs.Reached.{pairs_exact, pairs_once}
use Rattle.interp_graph.specs.Asked.{AskedWith, IsAsked}
use Rattle.interp_graph.specs.Listed.{Adds, Comes, ComesFrom, ComesWith, OfOne, Passes, but_cname, every}
use Rattle.interp_graph.specs.Making.{AreNodes, nodes_of, typed}
use Rattle.interp_graph.specs.StateKey.{state_eq}
use Rattle.interp_graph.specs.Steps.{AreLocated}
use Rattle.interp_graph.proofs.Counts.{listed_has, many_come, many_listed, pairs_listed}
use Rattle.interp_graph.proofs.Finished.{is_graph, one_node, pair_is}
use Rattle.interp_graph.proofs.ItemsByNumber.{from_row, side_by_side}
use Rattle.interp_graph.proofs.KeysByNumber.{distinct_states}
use Rattle.interp_graph.proofs.Listing.{no_fewer, still_listed}
use Rattle.interp_graph.proofs.Located.{begin_located, comes_located}
use Rattle.interp_graph.proofs.Standing.{begins, comes_stand}
use Rattle.interp_graph.proofs.TwoTurns.{all_come}
use Rattle.interp_graph.proofs.TypesAlike.{typed_rest}

-- a name with a tail for which a graph may be asked has at most 255 octets with it
pub asked_short : (config : Config) (name : SymName) → IsAsked config name → IfSome name.tail (λ label. wire_octets (name.known ++ label ∷ []) ≤ 255)
asked_short config name asked = by name.tail refl asked where
  by : (tail : Option (List ℕ)) → name.tail ≡ tail → AskedWith config name tail → IfSome tail (λ label. wire_octets (name.known ++ label ∷ []) ≤ 255)
  by None is with_tail = tt
  by (Some label) is with_tail =
      subst (λ (labels : Labels). wire_octets (name.known ++ labels) ≤ 255) (ap tail_labels is) with_tail.short

-- if a graph has at most so many pairs, the query reaches no more
pub built_few : (config : Config) (rewrites : ℕ) (query : Labels) (graph : PlainGraph) (limit : ℕ) → IsGraphOf (following config rewrites (server_names config)) query graph
    → IsExact config rewrites query graph → length (pairs_of graph) ≤ limit → HasMoreThan (IsReached config rewrites query) limit → ⊥
built_few config rewrites query graph limit is exact few more =
    no_more_than (IsReached config rewrites query) limit (pairs_of graph) few
    (λ pair is_reached. ((pairs_exact config rewrites query graph is exact).all pair).1 is_reached) more

-- ---- from where a query begins

-- the graph of states with the arms of their nodes
abbrev made : List State → List (List Arm) → List ℕ → PlainGraph
made states arms numbers = record { nodes = nodes_of states arms; starts = numbers }

module _ (setting : Setting) {begin none started : List State} (empty : none ≡ []) where
  -- the states in which the query begins come with each type
  pub started_come : Adds (OfOne (λ state one. state ≡ one) begin) none started → (state : State) → Contains started state
      → ComesWith setting begin every state
  started_come adds state has rtype all =
      let (one, among, same) = adds.each state (subst (λ (states : List State). Contains states state) (adds.behind ∙ ap (λ (front : List State). front ++ adds.more) empty) has) in
      begins setting begin state rtype (subst (Contains begin) same among)

  module _ {first : List State} (starts : Adds (OfOne (λ state one. state ≡ one) begin) none started) (firsts : Adds (ComesFrom setting every started) started first) where
    -- so do all first states
    pub first_come : (state : State) → Contains first state → ComesWith setting begin every state
    first_come = all_come setting every started first firsts begin (started_come starts)

    -- each listed state comes with each type that reaches it
    pub typed_come : (states : List State) → Adds (ComesFrom setting but_cname first) first states → (at : ℕ) (state : State) (rtype : RrType)
        → slice_get states at ≡ Some state → typed (length first) at rtype ≡ true → Comes setting begin rtype state
    typed_come states adds at state rtype is reaches =
        elim (from_row first adds.more state at (ap (λ (ss : List State). slice_get ss at) (sym adds.behind) ∙ is)) [
          | inl here ↦ first_come state (item_there first at state here) rtype refl
          | inr behind ↦ all_come setting but_cname first states adds begin (λ one has t other. first_come one has t refl) state (item_there states at state is) rtype
              (sym (ap (λ (among : RrType → Bool). among rtype) (typed_rest (length first) at behind.0)) ∙ reaches)
        ]

-- the states in which a query begins have the origins of their zones
pub begun_located : (config : Config) (rewrites : ℕ) (query : Labels) (setting : Setting) → setting ≡ following config rewrites (server_names config)
    → (begin : List State) → begin ≡ start config query → AreLocated setting.config begin
begun_located config rewrites query setting read_in begin is_begin =
    subst (λ (s : Setting). AreLocated s.config begin) (sym read_in) (subst (AreLocated config) (sym is_begin) (begin_located config query))

-- and so have the states that are listed first
pub started_located : (setting : Setting) (begin none started : List State) → none ≡ [] → AreLocated setting.config begin
    → Adds (OfOne (λ state one. state ≡ one) begin) none started → AreLocated setting.config started
started_located setting begin none started empty located adds state has =
    comes_located setting begin rr.A state located (started_come setting empty adds state has rr.A refl)

module _ (config : Config) (rewrites : ℕ) (query : Labels) {setting : Setting} (read_in : setting ≡ following config rewrites (server_names config))
    {begin : List State} (is_begin : begin ≡ start config query) where
  -- what comes from where the query begins is reached
  reached : (state : State) (rtype : RrType) → Comes setting begin rtype state → IsReached config rewrites query (state, rtype)
  reached state rtype comes =
      let stands = comes_stand (following config rewrites (server_names config)) query rtype state
      (subst (λ (states : List State). Comes (following config rewrites (server_names config)) states rtype state) is_begin
      (subst (λ (s : Setting). Comes s begin rtype state) read_in comes)) in
      record { walk = stands.walk; is_walk = stands.is_walk; stands = stands.stands }

  -- where too many states come with each type, more pairs are reached than are allowed
  pub first_passed : {Is : State → Type 0} {before : List State} {most : ℕ} (limit : ℕ) → ((many : ℕ) → most < many → limit < 12 * many) → (passes : Passes Is most before)
      → ((state : State) → Contains passes.after state → ComesWith setting begin every state) → HasMoreThan (IsReached config rewrites query) limit
  first_passed limit over passes come =
      many_come (IsReached config rewrites query) (length passes.after) limit passes.after (omega arith) (distinct_states passes.after passes.once)
      (omega (arith, over (length passes.after) passes.many))
      (λ at state rtype is reaches. reached state rtype (come state (item_there passes.after at state is) rtype refl))

  module _ {none started first : List State} (empty : none ≡ []) (starts : Adds (OfOne (λ state one. state ≡ one) begin) none started)
      (firsts : Adds (ComesFrom setting every started) started first) where
    -- where too many come together with each type but CNAME, so they are
    pub rest_passed : {most : ℕ} (limit : ℕ) → ((many : ℕ) → most < many → limit < 11 * many + length first) → Passes (ComesFrom setting but_cname first) most first
        → HasMoreThan (IsReached config rewrites query) limit
    rest_passed limit over passes =
        many_come (IsReached config rewrites query) (length first) limit passes.after
        (no_fewer passes.adds) (distinct_states passes.after passes.once) (over (length passes.after) passes.many)
        (λ at state rtype is reaches. reached state rtype (typed_come setting empty starts firsts passes.after passes.adds at state rtype is reaches))

    module _ {states : List State} (rest : Adds (ComesFrom setting but_cname first) first states) (once : IsDistinct state_eq states)
        {arms : List (List Arm)} (nodes : AreNodes setting states (length first) arms) (numbers : List ℕ)
        (told : AllZip (λ at state. slice_get started at ≡ Some state) numbers begin) where
      in_force : IsGraphOf setting query (made states arms numbers)
      in_force =
          is_graph setting states (length first) arms nodes numbers query
          (subst (AllZip (λ at state. (slice_get states at ≡ Some state) × (at < length first)) numbers)
          (is_begin ∙ ap (λ (s : Setting). start s.config query) (sym read_in))
          (side_by_side (λ at state. slice_get started at ≡ Some state) (λ at state. (slice_get states at ≡ Some state) × (at < length first)) numbers begin
          (λ at state is. let there = still_listed firsts at state is in (still_listed rest at state there, slice_get_within first at state there)) told))

      -- the graph is one of the query's walks
      pub built_graph : IsGraphOf (following config rewrites (server_names config)) query (made states arms numbers)
      built_graph = subst (λ (s : Setting). IsGraphOf s query (made states arms numbers)) read_in in_force

      -- no two of its nodes have equal states, and each of its pairs is reached
      pub built_exact : IsExact config rewrites query (made states arms numbers)
      built_exact =
          record {
            one_node = one_node states arms nodes.all (distinct_states states once);
            reached = λ pair has.
                let (at, is, reaches) = pair_is setting states (length first) arms nodes numbers pair has in
                reached pair.0 pair.1 (typed_come setting empty starts firsts states rest at pair.0 pair.1 is reaches);
          }

      -- it has no more pairs than are allowed
      pub built_pairs : (limit : ℕ) → 11 * length states + length first ≤ limit → length (pairs_of (made states arms numbers)) ≤ limit
      built_pairs limit few =
          omega (
            arith,
            few,
            many_listed (length first) states (no_fewer rest),
            fits_among (pairs_of (made states arms numbers)) (pairs_listed (length first) states) (pairs_once setting query (made states arms numbers) in_force built_exact.one_node)
                (λ pair has.
                let (at, is, reaches) = pair_is setting states (length first) arms nodes numbers pair has in
                listed_has (length first) states at pair.0 pair.1 is reaches),
          )
