-- In an exact graph of a query the hop of each branch of a node with a type is on a walk with this type, and each hop of a
-- walk is that of a branch.
use Rattle.std.proofs.Common.{◌≡◌, ◌≢◌, ℕ, true, List, [], ◌∷◌, ◌++◌, map, sym, ap, ◌∙◌, subst, inl, inr, Some, None}
use Rattle.std.specs.Prelude.{◌⊎◌, Contains, slice_get, Option, option_map, option_and_then}
use Rattle.std.specs.Option.{option_to_list}
use Rattle.std.proofs.lemmas.List.Elements.{Contains-append_right}
use Rattle.dns_data.specs.Name.{Labels}
use Rattle.dns_data.specs.declared.rr_type.RrType.{RrType}
use Rattle.dns_data.proofs.Membership.{none_in_nil, has_first, first_or_later}
use Rattle.net_model.specs.Step.{Setting, arrived}
use Rattle.net_model.specs.Walk.{IsWalk, led_on, walk_along, walk_from}
use Rattle.net_model.specs.declared.walk.Hop.{Hop}
use Rattle.net_model.specs.declared.walk.Leaf.{Leaf}
use Rattle.net_model.specs.declared.walk.Walk.{Walk}
use Rattle.net_model.proofs.EndsSomewhere.{ends_somewhere}
use Rattle.graph_form.specs.Branches.{hop_of}
use Rattle.graph_form.specs.Graph.{HasBranch, PlainGraph, path_from, path_along}
use Rattle.graph_form.specs.GraphOf.{IsExactIn, IsGraphOf}
use Rattle.graph_form.specs.declared.node.Branch.{Branch}
use Rattle.graph_form.specs.declared.node.Branch.TheVariants.{Go, End}
use Rattle.graph_form.specs.declared.node.Node.{Node}
use Rattle.graph_form.proofs.NoCircle.{of_arm, told_step}
use Rattle.graph_form.proofs.Paths.{path_is_walk, rest_is_walk}
use Rattle.graph_form.proofs.Places.{item_there}
use Rattle.graph_form.proofs.Reached.{pair_there}
use Rattle.graph_form.proofs.ReachedNodes.{reached, walk_by}
use Rattle.graph_form.proofs.TakenPaths.{path_by, path_parts, GoesOn, EndsSo}
use Rattle.graph_form.proofs.WalksLed.{behind}

module _ (graph : PlainGraph) (rtype : RrType) where
  -- a branch with the hop
  pub record HopAt (hop : Hop) : Type 0 where
    pub at : ℕ
    pub number : ℕ
    pub node : Node
    pub branch : Branch
    pub has : HasBranch graph rtype at number node branch
    pub has_hop : hop_of branch ≡ Some hop

  by_end : (at number : ℕ) (node : Node) (last : Option Hop) (leaf : Leaf) (hop : Hop) → HasBranch graph rtype at number node (End last leaf)
      → Contains (option_to_list last) hop → HopAt hop
  by_end at number node None leaf hop has among = absurd (none_in_nil hop among)
  by_end at number node (Some other) leaf hop has among =
      elim (first_or_later other [] hop among) [
        | inl same ↦ record { at = at; number = number; node = node; branch = End (Some other) leaf; has = has; has_hop = ap (λ h. Some h) same }
        | inr none ↦ absurd (none_in_nil hop none)
      ]

  hop_of_rest : (numbers : List ℕ) (at : ℕ) (walk : Walk) (hop : Hop) → path_from graph rtype numbers at ≡ Some walk → Contains walk.hops hop → HopAt hop
  hop_of_rest [] at walk hop e among = cc
  hop_of_rest (number ∷ numbers) at walk hop e among =
      by (path_parts graph rtype numbers at number walk e) (λ to later goes has. hop_of_rest numbers to later hop goes has)
    where
      by : GoesOn graph rtype numbers at number walk ⊎ EndsSo graph rtype numbers at number walk
          → ((to : ℕ) (later : Walk) → path_from graph rtype numbers to ≡ Some later → Contains later.hops hop → HopAt hop) → HopAt hop
      by (inl on) rest =
          elim (first_or_later on.hop on.later.hops hop (subst (λ (w : Walk). Contains w.hops hop) (sym on.made) among)) [
            | inl same ↦ record { at = at; number = number; node = on.node; branch = Go on.hop on.to; has = on.has; has_hop = ap (λ h. Some h) same }
            | inr later ↦ rest on.to on.later on.goes later
          ]
      by (inr end) rest = by_end at number end.node end.hop end.leaf hop end.has (subst (λ (w : Walk). Contains w.hops hop) (sym end.made) among)

  hop_of_path : (numbers : List ℕ) (walk : Walk) (hop : Hop) → path_along graph rtype numbers ≡ Some walk → Contains walk.hops hop → HopAt hop
  hop_of_path [] walk hop e among = cc
  hop_of_path (number ∷ numbers) walk hop e among = by (slice_get graph.starts number) e where
    by : (start : Option ℕ) → option_and_then (path_from graph rtype numbers) start ≡ Some walk → HopAt hop
    by None e = cc
    by (Some at) e = hop_of_rest numbers at walk hop e among

  module _ (setting : Setting) (query : Labels) (is : IsGraphOf setting query graph) (exact : IsExactIn setting query graph) where
    -- a hop of a walk of the query is that of a branch
    pub hop_of_walk : (walk : Walk) (hop : Hop) → IsWalk setting query rtype walk → Contains walk.hops hop → HopAt hop
    hop_of_walk walk hop (numbers, e) among = hop_of_path numbers walk hop (path_is_walk setting query graph rtype is numbers ∙ e) among

    -- there are walks, so there are top servers
    some_tops : (numbers : List ℕ) (walk : Walk) → walk_along setting query rtype numbers ≡ Some walk → setting.config.tops ≢ []
    some_tops [] walk e none = cc
    some_tops (number ∷ numbers) walk e none =
        let no_start : walk_along setting query rtype (number ∷ numbers) ≡ None =
        ap (λ tops. option_and_then (walk_from setting rtype numbers) (slice_get (map (arrived setting.config query true 0 None) tops) number)) none in
        cc

    -- a walk of the query with the hop
    pub record WalkWith (hop : Hop) : Type 0 where
      pub walk : Walk
      pub is_walk : IsWalk setting query rtype walk
      pub among : Contains walk.hops hop

    goes_with : (at number to : ℕ) (node : Node) (hop : Hop) → HasBranch graph rtype at number node (Go hop to) → WalkWith hop
    goes_with at number to node hop has =
        let front = reached graph rtype setting query is exact at number node (Go hop to) has in
        let of = of_arm setting query graph rtype is at number node (Go hop to) has in
        let typed = is.closed at node of.arm rtype of.in_graph of.typed hop to (item_there of.arm.branches number (Go hop to) of.there) in
        let told = told_step setting query graph rtype is at number node (Go hop to) has in
        let stands = exact.reached (node.state, rtype) (pair_there graph at node of.arm rtype has.here of.in_graph.has_arm of.typed) in
        let ends = ends_somewhere setting rtype (some_tops stands.is_walk.0 stands.walk stands.is_walk.1) typed.0.state in
        let rest : path_from graph rtype ends.0 to ≡ Some ends.1 = rest_is_walk setting query graph rtype is ends.0 to typed.0 typed.1 typed.2 ∙ ends.2 in
        record {
          walk = behind front.states front.hops (led_on node.state hop ends.1);
          is_walk = (
            front.numbers ++ number ∷ ends.0,
            sym (path_is_walk setting query graph rtype is (front.numbers ++ number ∷ ends.0))
                ∙ (front.leads number ends.0
                ∙ ap (option_map (behind front.states front.hops)) (path_by graph rtype ends.0 at number node (Go hop to) has ∙ ap (option_map (led_on node.state hop)) rest)),
          );
          among = Contains-append_right front.hops (hop ∷ ends.1.hops) hop (has_first hop ends.1.hops);
        }

    ends_with : (at number : ℕ) (node : Node) (hop : Hop) (leaf : Leaf) → HasBranch graph rtype at number node (End (Some hop) leaf) → WalkWith hop
    ends_with at number node hop leaf has =
        let by = walk_by graph rtype setting query is exact at number node (Some hop) leaf has in
        record {
          walk = by.walk;
          is_walk = by.is_walk;
          among = subst (λ (all : List Hop). Contains all hop) (sym by.hops_are) (Contains-append_right by.hops_before (hop ∷ []) hop (has_first hop []));
        }

    -- the hop of a branch is on a walk of the query
    pub walk_with : (at number : ℕ) (node : Node) (branch : Branch) (hop : Hop) → HasBranch graph rtype at number node branch → hop_of branch ≡ Some hop → WalkWith hop
    walk_with at number node (Go other to) hop has same =
        let is : other ≡ hop = cc in
        goes_with at number to node hop (subst (λ h. HasBranch graph rtype at number node (Go h to)) is has)
    walk_with at number node (End other leaf) hop has same =
        ends_with at number node hop leaf (subst (λ h. HasBranch graph rtype at number node (End h leaf)) same has)
