-- The graph of the walks that follow some servers, of the graph of those that follow all.
use Rattle.std.proofs.Common.{◌≡◌, ◌≢◌, ℕ, ◌<◌, ◌≤◌, Bool, true, false, List, [], ◌∷◌, map, length, get_or, Option, Some, None, refl, sym, ap, ◌∙◌, subst, true≢false, arith}
use Rattle.std.specs.Prelude.{◌&&◌, Contains, AllPairs, is_some, slice_get}
use Rattle.std.specs.List.{AllZip}
use Rattle.std.specs.Option.{option_map_or}
use Rattle.std.proofs.lemmas.Bool.{and_parts, and_from}
use Rattle.std.proofs.lemmas.List.Elements.{AllZip-get_or}
use Rattle.std.proofs.lemmas.Option.{slice_get_within, get_or_from_slice_get}
use Rattle.dns_data.specs.Name.{Labels}
use Rattle.dns_data.specs.RrType.{types}
use Rattle.dns_data.specs.TypeSet.{has_bit}
use Rattle.dns_data.specs.declared.rr_type.RrType.{RrType}
use Rattle.dns_data.proofs.DifferentItems.{fits_among}
use Rattle.dns_data.proofs.Membership.{map_has, from_map, from_filter, from_flat_map}
use Rattle.dns_data.proofs.Searches.{find_some}
use Rattle.net_model.specs.Nearest.{server_names}
use Rattle.net_model.specs.Step as step
use Rattle.net_model.specs.Step.{Setting, following, start, next}
use Rattle.net_model.specs.declared.config.Config.{Config}
use Rattle.net_model.specs.declared.walk.Hop.{Hop}
use Rattle.net_model.specs.declared.walk.Leaf.{Leaf}
use Rattle.net_model.specs.declared.walk.Leaf.TheVariants.{Lame}
use Rattle.net_model.specs.declared.walk.State.{State}
use Rattle.graph_form.specs.Graph.{PlainGraph, types_of, arm_of, arm_pairs, node_pairs, pairs_of}
use Rattle.graph_form.specs.GraphOf.{HasState, HasType, TellsStep, IsArm, IsExactIn, IsGraphOf}
use Rattle.graph_form.specs.declared.node.Arm.{Arm}
use Rattle.graph_form.specs.declared.node.Branch.{Branch}
use Rattle.graph_form.specs.declared.node.Branch.TheVariants.{Go, End}
use Rattle.graph_form.specs.declared.node.Node.{Node}
use Rattle.graph_form.proofs.Places.{found_there, place_of_item}
use Rattle.graph_form.proofs.Reached.{pair_there, pairs_once}
use Rattle.interp_graph.specs.Listed.{Comes}
use Rattle.interp_graph.specs.Restricted.{shut, restricted, limited, LeadsTo, ComesOver, has_type, AreReached, IsLimitedArm, LimitedAt, AreLimited}
use Rattle.interp_graph.proofs.ItemsByNumber.{one_there, side_by_side, beside, beside_other}
use Rattle.interp_graph.proofs.NextRestricted.{next_restricted}
use Rattle.interp_graph.proofs.Standing.{begins, comes_on, comes_stand}

-- ---- branches while hops end

module _ (ends : Hop → Option Leaf) where
  -- a branch that still goes on is as it was, and its hop doesn't end
  goes_on : (branch : Branch) (hop : Hop) (to : ℕ) → limited ends branch ≡ Go hop to → (branch ≡ Go hop to) × (ends hop ≡ None)
  goes_on (Go h k) hop to e = by (ends h) refl e where
    by : (leaf : Option Leaf) → ends h ≡ leaf → option_map_or (λ leaf. End (Some h) leaf) leaf (Go h k) ≡ Go hop to → (Go h k ≡ Go hop to) × (ends hop ≡ None)
    by None is e = let same : h ≡ hop = cc in (e, subst (λ (g : Hop). ends g ≡ None) same is)
    by (Some leaf) is e = cc
  goes_on (End (Some h) (Lame ns)) hop to e = by (ends h) e where
    by : (leaf : Option Leaf) → option_map_or (λ leaf. End (Some h) leaf) leaf (End (Some h) (Lame ns)) ≡ Go hop to
        → (End (Some h) (Lame ns) ≡ Go hop to) × (ends hop ≡ None)
    by None e = cc
    by (Some leaf) e = cc
  goes_on (End None leaf) hop to e = cc
  goes_on (End (Some h) leaf) hop to e = cc

  module _ (graph : PlainGraph) where
    -- a branch of a graph that tells one of a state still tells it
    tells : (branch : Branch) (other : step.Branch) → TellsStep graph branch other → TellsStep graph (limited ends branch) (restricted ends other)
    tells (Go hop to) other (state, same, has) =
        subst (λ (o : step.Branch). TellsStep graph (limited ends (Go hop to)) (restricted ends o)) (sym same) (by (ends hop))
      where
        by : (leaf : Option Leaf) → TellsStep graph (option_map_or (λ leaf. End (Some hop) leaf) leaf (Go hop to)) (option_map_or (λ leaf. step.End (Some hop) leaf) leaf (step.Go hop state))
        by None = (state, refl, has)
        by (Some leaf) = refl
    tells (End (Some hop) (Lame ns)) other same =
        subst (λ (o : step.Branch). TellsStep graph (limited ends (End (Some hop) (Lame ns))) (restricted ends o)) (sym same) (by (ends hop))
      where
        by : (leaf : Option Leaf) → TellsStep graph (option_map_or (λ leaf. End (Some hop) leaf) leaf (End (Some hop) (Lame ns)))
            (option_map_or (λ leaf. step.End (Some hop) leaf) leaf (step.End (Some hop) (Lame ns)))
        by None = refl
        by (Some leaf) = refl
    tells (End None leaf) other same = ap (restricted ends) same
    tells (End (Some hop) leaf) other same = ap (restricted ends) same

    -- and so do branches one by one
    all_tell : (branches : List Branch) (others : List step.Branch) → AllZip (TellsStep graph) branches others
        → AllZip (TellsStep graph) (map (limited ends) branches) (map (restricted ends) others)
    all_tell [] [] all = tt
    all_tell [] (o ∷ others) all = absurd all
    all_tell (b ∷ branches) [] all = absurd all
    all_tell (b ∷ branches) (o ∷ others) all = (tells b o all.0, all_tell branches others all.1)

-- ---- the graph

module _ (config : Config) (rewrites : ℕ) (followed : List Labels) (query : Labels) (graph : PlainGraph)
    (is : IsGraphOf (following config rewrites (server_names config)) query graph) where
  abbrev some : Setting
  some = following config rewrites followed

  abbrev ends : Hop → Option Leaf
  ends = shut config followed

  -- what an arm tells of its node's state while some servers are followed
  told : (at : ℕ) (node : Node) (arm : Arm) (rtype : RrType) → IsArm graph at node arm → has_bit arm.types rtype ≡ true
      → AllZip (TellsStep graph) (map (limited ends) arm.branches) (next some rtype node.state)
  told at node arm rtype in_graph typed =
      subst (AllZip (TellsStep graph) (map (limited ends) arm.branches)) (sym (next_restricted config rewrites followed node.state rtype))
      (all_tell ends graph arm.branches (next (following config rewrites (server_names config)) rtype node.state) (is.steps at node arm rtype in_graph typed))

  -- an arm leads to a node that has the type
  leads_to_type : (rtype : RrType) (at to : ℕ) → LeadsTo ends graph.nodes rtype at to → HasType graph rtype to
  leads_to_type rtype at to leads =
      is.closed at leads.node leads.arm rtype (record { is_node = leads.is_node; has_arm = leads.has_arm }) leads.typed leads.hop to leads.goes

  below : (rtype : RrType) (at : ℕ) → HasType graph rtype at → at < length graph.nodes
  below rtype at (node, is_node, has) = slice_get_within graph.nodes at node is_node

  same_state : (at : ℕ) (one other : State) → HasState graph at one → HasState graph at other → one ≡ other
  same_state at one other (a, is_a, has_a) (b, is_b, has_b) = sym has_a ∙ (ap (λ (n : Node). n.state) (one_there graph.nodes at a b is_a is_b) ∙ has_b)

  -- what a path comes to comes from where the query begins
  comes : (path : List ℕ) (at : ℕ) (rtype : RrType) (state : State) → ComesOver ends graph.nodes graph.starts rtype path at → HasState graph at state
      → Comes some (start config query) rtype state
  comes [] at rtype state starts has =
      let first = beside (HasState graph) graph.starts (start config query) at is.starts starts in
      subst (Comes some (start config query) rtype) (same_state at first.0 state first.2 has) (begins some (start config query) first.0 rtype first.1)
  comes (before ∷ path) at rtype state (leads, rest) has =
      let branch : limited ends (Go leads.hop at) ≡ Go leads.hop at = ap (λ leaf. option_map_or (λ leaf. End (Some leads.hop) leaf) leaf (Go leads.hop at)) leads.open_hop in
      let step_on = beside (TellsStep graph) (map (limited ends) leads.arm.branches) (next some rtype leads.node.state) (Go leads.hop at)
      (told before leads.node leads.arm rtype (record { is_node = leads.is_node; has_arm = leads.has_arm }) leads.typed)
      (subst (Contains (map (limited ends) leads.arm.branches)) branch (map_has (limited ends) leads.arm.branches (Go leads.hop at) leads.goes)) in
      subst (Comes some (start config query) rtype) (same_state at step_on.2.0 state step_on.2.2 has)
      (comes_on some (start config query) rtype leads.node.state (comes path before rtype leads.node.state rest (leads.node, leads.is_node, refl)) leads.hop
      step_on.2.0 (subst (Contains (next some rtype leads.node.state)) step_on.2.1 step_on.1))

  module _ (sets : List (List Bool)) (reached : AreReached ends graph.nodes graph.starts sets) (nodes : List Node) (are : AreLimited ends nodes sets graph.nodes) where
    abbrev restriction : PlainGraph
    restriction = record { nodes = nodes; starts = graph.starts }

    -- a node of the restricted graph, and one of the given graph, by the number
    there : (at : ℕ) (one : Node) → slice_get nodes at ≡ Some one → (so : LimitedAt ends nodes sets graph.nodes at) × (so.one ≡ one)
    there at one is_one = let so = are.each at (slice_get_within nodes at one is_one) in (so, one_there nodes at so.one one so.is_one is_one)

    given : (at : ℕ) (node : Node) → slice_get graph.nodes at ≡ Some node → (so : LimitedAt ends nodes sets graph.nodes at) × (so.node ≡ node)
    given at node is_node =
        let below = slice_get_within graph.nodes at node is_node in
        let so = are.each at (omega (arith, below, are.many)) in
        (so, one_there graph.nodes at so.node node so.is_node is_node)

    -- an arm of the restricted graph that has a type, and the given one that it is of
    record OfArm (at : ℕ) (one : Node) (arm : Arm) (rtype : RrType) : Type 0 where
      node : Node
      before : Arm
      is_arm : IsArm graph at node before
      typed : has_bit before.types rtype ≡ true
      in_set : has_type sets at rtype ≡ true
      state : node.state ≡ one.state
      branches : map (limited ends) before.branches ≡ arm.branches

    of_arm : (at : ℕ) (one : Node) (arm : Arm) (rtype : RrType) → IsArm restriction at one arm → has_bit arm.types rtype ≡ true → OfArm at one arm rtype
    of_arm at one arm rtype is_arm typed =
        let so = there at one is_arm.is_node in
        let of = beside (IsLimitedArm ends so.0.set) so.0.one.arms so.0.node.arms arm so.0.is_limited.arms
        (subst (λ (n : Node). Contains n.arms arm) (sym so.1) is_arm.has_arm) in
        let both = and_parts (has_bit so.0.set rtype) (has_bit of.0.types rtype) (sym (of.2.types rtype) ∙ typed) in
        record {
          node = so.0.node;
          before = of.0;
          is_arm = record { is_node = so.0.is_node; has_arm = of.1 };
          typed = both.1;
          in_set = ap (λ found. option_map_or (λ set. has_bit set rtype) found false) so.0.is_set ∙ both.0;
          state = sym so.0.is_limited.state ∙ ap (λ (n : Node). n.state) so.1;
          branches = sym (of.2.branches rtype typed);
        }

    -- a node keeps its state
    keeps_state : (at : ℕ) (state : State) → HasState graph at state → HasState restriction at state
    keeps_state at state (node, is_node, has) =
        let so = given at node is_node in
        (so.0.one, so.0.is_one, so.0.is_limited.state ∙ (ap (λ (n : Node). n.state) so.1 ∙ has))

    -- a node keeps a type with which a path comes to it
    keeps_type : (rtype : RrType) (at : ℕ) → HasType graph rtype at → has_type sets at rtype ≡ true → HasType restriction rtype at
    keeps_type rtype at (node, is_node, some_arm) in_set =
        let so = given at node is_node in
        (so.0.one, so.0.is_one, by so.0 (arm_of so.0.node rtype) refl (subst (λ (n : Node). is_some (arm_of n rtype) ≡ true) (sym so.1) some_arm))
      where
        by : (so : LimitedAt ends nodes sets graph.nodes at) (found : Option Arm) → arm_of so.node rtype ≡ found → is_some found ≡ true
            → is_some (arm_of so.one rtype) ≡ true
        by so None found some_arm = absurd (true≢false (sym some_arm))
        by so (Some arm) found some_arm =
            let in_node = found_there (λ (a : Arm). has_bit a.types rtype) so.node.arms arm found in
            let of = beside_other (IsLimitedArm ends so.set) so.one.arms so.node.arms arm so.is_limited.arms in_node.0 in
            let typed : has_bit so.set rtype ≡ true = sym (ap (λ found. option_map_or (λ set. has_bit set rtype) found false) so.is_set) ∙ in_set in
            ap is_some (find_some (λ (a : Arm). has_bit a.types rtype) so.one.arms of.0 of.1
            (of.2.types rtype ∙ and_from (has_bit so.set rtype) (has_bit arm.types rtype) typed in_node.1)).1

    -- the arms of a node are still apart
    still_apart : (at : ℕ) (one : Node) → slice_get nodes at ≡ Some one
        → AllPairs (λ a b. (rtype : RrType) → has_bit a.types rtype ≡ true → has_bit b.types rtype ≡ false) one.arms
    still_apart at one is_one =
        let so = there at one is_one in
        subst (λ (n : Node). AllPairs (λ (a b : Arm). (rtype : RrType) → has_bit a.types rtype ≡ true → has_bit b.types rtype ≡ false) n.arms) so.1
        (by so.0.set so.0.one.arms so.0.node.arms so.0.is_limited.arms (is.apart at so.0.node so.0.is_node))
      where
        none_of : (a b c : Bool) → c ≡ (a && b) → b ≡ false → c ≡ false
        none_of true b c e f = e ∙ f
        none_of false b c e f = e

        as_long : (set : List Bool) (xs ys : List Arm) → AllZip (IsLimitedArm ends set) xs ys → length xs ≡ length ys
        as_long set [] [] all = refl
        as_long set [] (y ∷ ys) all = absurd all
        as_long set (x ∷ xs) [] all = absurd all
        as_long set (x ∷ xs) (y ∷ ys) all = omega (arith, as_long set xs ys all.1)

        by : (set : List Bool) (xs ys : List Arm) → AllZip (IsLimitedArm ends set) xs ys
            → AllPairs (λ (a b : Arm). (rtype : RrType) → has_bit a.types rtype ≡ true → has_bit b.types rtype ≡ false) ys
            → AllPairs (λ (a b : Arm). (rtype : RrType) → has_bit a.types rtype ≡ true → has_bit b.types rtype ≡ false) xs
        by set xs ys all apart i j d before within rtype typed =
            let long = as_long set xs ys all in
            let one = AllZip-get_or (IsLimitedArm ends set) xs ys i d d all (omega (arith, before, within)) in
            let other = AllZip-get_or (IsLimitedArm ends set) xs ys j d d all within in
            none_of (has_bit set rtype) (has_bit (get_or ys j d).types rtype) (has_bit (get_or xs j d).types rtype) (other.types rtype)
            (apart i j d before (omega (arith, within, long)) rtype
            (and_parts (has_bit set rtype) (has_bit (get_or ys i d).types rtype) (sym (one.types rtype) ∙ typed)).1)

    -- the restricted graph is one of the query's walks while the servers are followed
    pub restricted_graph : IsGraphOf some query restriction
    restricted_graph =
        record {
          steps = λ at one arm rtype is_arm typed.
              let of = of_arm at one arm rtype is_arm typed in
              subst (λ (bs : List Branch). AllZip (TellsStep restriction) bs (next some rtype one.state)) of.branches
              (subst (λ (s : State). AllZip (TellsStep restriction) (map (limited ends) of.before.branches) (next some rtype s)) of.state
              (side_by_side (TellsStep graph) (TellsStep restriction) (map (limited ends) of.before.branches) (next some rtype of.node.state) still_tells
              (told at of.node of.before rtype of.is_arm of.typed)));
          closed = λ at one arm rtype is_arm typed hop to has.
              let of = of_arm at one arm rtype is_arm typed in
              let branch = from_map (limited ends) of.before.branches (Go hop to) (subst (λ (bs : List Branch). Contains bs (Go hop to)) (sym of.branches) has) in
              let on = goes_on ends branch.0 hop to branch.2 in
              let leads : LeadsTo ends graph.nodes rtype at to = record {
                node = of.node;
                is_node = of.is_arm.is_node;
                arm = of.before;
                has_arm = of.is_arm.has_arm;
                typed = of.typed;
                hop = hop;
                goes = subst (Contains of.before.branches) on.0 branch.1;
                open_hop = on.1;
              } in
              keeps_type rtype to (leads_to_type rtype at to leads) (reached.closed at to rtype of.in_set leads (below rtype to (leads_to_type rtype at to leads)));
          starts = side_by_side (HasState graph) (HasState restriction) graph.starts (start config query) keeps_state is.starts;
          all_types = λ at has rtype. keeps_type rtype at (is.all_types at has rtype) (reached.begun at has (below rtype at (is.all_types at has rtype)) rtype);
          apart = still_apart;
        }
      where
        still_tells : (branch : Branch) (other : step.Branch) → TellsStep graph branch other → TellsStep restriction branch other
        still_tells (Go hop to) other (state, same, has) = (state, same, keeps_state to state has)
        still_tells (End hop leaf) other same = same

    -- a pair of the restricted graph is one of an arm of the given graph, and a path comes to its node
    record OfPair (pair : State × RrType) : Type 0 where
      at : ℕ
      node : Node
      arm : Arm
      is_arm : IsArm graph at node arm
      typed : has_bit arm.types pair.1 ≡ true
      has_state : node.state ≡ pair.0
      in_set : has_type sets at pair.1 ≡ true

    of_pair : (pair : State × RrType) → Contains (pairs_of restriction) pair → OfPair pair
    of_pair pair has =
        let one = from_flat_map node_pairs nodes pair has in
        let at = place_of_item nodes one.0 one.1 in
        let arm = from_flat_map (arm_pairs one.0.state) one.0.arms pair one.2 in
        let make : RrType → State × RrType = λ t. (one.0.state, t) in
        let of_type = from_map make (types_of arm.0) pair arm.2 in
        let typed : has_bit arm.0.types pair.1 ≡ true =
        ap (has_bit arm.0.types) (ap (λ (p : State × RrType). p.1) (sym of_type.2)) ∙ (from_filter (has_bit arm.0.types) types of_type.0 of_type.1).1 in
        let of = of_arm at.0 one.0 arm.0 pair.1 (record { is_node = at.1; has_arm = arm.1 }) typed in
        record {
          at = at.0;
          node = of.node;
          arm = of.before;
          is_arm = of.is_arm;
          typed = of.typed;
          has_state = of.state ∙ ap (λ (p : State × RrType). p.0) of_type.2;
          in_set = of.in_set;
        }

    module _ (once : AllPairs (λ a b. a.state ≢ b.state) graph.nodes) where
      -- no two of its nodes have equal states, and it has no pair but those that walks reach
      pub restricted_exact : IsExactIn some query restriction
      restricted_exact =
          record {
            one_node = λ i j d before within same.
                let first = are.each i (omega (arith, before, within)) in
                let second = are.each j within in
                let state : (k : ℕ) (so : LimitedAt ends nodes sets graph.nodes k) → (get_or nodes k d).state ≡ (get_or graph.nodes k d).state =
                λ k so. ap (λ (n : Node). n.state) (get_or_from_slice_get nodes k so.one d so.is_one)
                ∙ (so.is_limited.state ∙ sym (ap (λ (n : Node). n.state) (get_or_from_slice_get graph.nodes k so.node d so.is_node))) in
                once i j d before (omega (arith, within, are.many)) (sym (state i first) ∙ (same ∙ state j second));
            reached = λ pair has.
                let of = of_pair pair has in
                let path = reached.sound of.at pair.1 of.in_set in
                comes_stand some query pair.1 pair.0 (comes path.0 of.at pair.1 pair.0 path.1 (of.node, of.is_arm.is_node, of.has_state));
          }

      -- the restricted graph has no more pairs than the given one
      pub no_more_pairs : length (pairs_of restriction) ≤ length (pairs_of graph)
      no_more_pairs =
          fits_among (pairs_of restriction) (pairs_of graph) (pairs_once some query restriction restricted_graph restricted_exact.one_node)
          (λ pair has. let of = of_pair pair has in
          subst (λ (s : State). Contains (pairs_of graph) (s, pair.1)) of.has_state
          (pair_there graph of.at of.node of.arm pair.1 of.is_arm.is_node of.is_arm.has_arm of.typed))
