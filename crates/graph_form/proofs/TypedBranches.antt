-- The branches of a graph with the first types of their arms, and the branches that its nodes have for a type.
use Rattle.std.proofs.Common.{◌≡◌, ℕ, ◌≤◌, true, List, [], refl, sym, ap, ◌∙◌, subst, Some, None, true≢false}
use Rattle.std.specs.Prelude.{Contains, Option, map, slice_get}
use Rattle.std.specs.List.{find, flat_map}
use Rattle.std.specs.Option.{option_map_or}
use Rattle.std.proofs.lemmas.List.Folds.{flat_map-map}
use Rattle.dns_data.specs.Name.{Labels}
use Rattle.dns_data.specs.RrType.{number_of, types}
use Rattle.dns_data.specs.TypeSet.{has_bit}
use Rattle.dns_data.specs.declared.rr_type.RrType.{RrType}
use Rattle.dns_data.proofs.Membership.{flat_map_has, from_flat_map, from_map, map_has, none_in_nil}
use Rattle.dns_data.proofs.Searches.{found_there}
use Rattle.dns_data.proofs.Sets.{first_least, first_none}
use Rattle.net_model.specs.Step.{Setting}
use Rattle.net_model.specs.declared.fault.Fault.{Fault}
use Rattle.net_model.specs.declared.walk.State.{State}
use Rattle.graph_form.specs.Branches.{PlainBranch, arm_branches, branch_seen, node_branches, plain, plain_branch, seen_by, typed_branches}
use Rattle.graph_form.specs.Graph.{HasBranch, PlainGraph}
use Rattle.graph_form.specs.GraphOf.{IsGraphOf}
use Rattle.graph_form.specs.Verdict.{IsCovered}
use Rattle.graph_form.specs.declared.branches.TypedBranch.{TypedBranch}
use Rattle.graph_form.specs.declared.node.Arm.{Arm}
use Rattle.graph_form.specs.declared.node.Branch.{Branch}
use Rattle.graph_form.specs.declared.node.Node.{Node}
use Rattle.graph_form.specs.declared.report.Seen.{Seen}
use Rattle.graph_form.proofs.NoCircle.{OfArm, of_arm}
use Rattle.graph_form.proofs.Places.{item_there, place_of_item}
use Rattle.graph_form.proofs.Verdicts.{branch_for, one_arm}

-- what references to the branches of a graph give, one after the other
pub of_plain : {Y : Type 0} (f : PlainBranch → List Y) (all : List TypedBranch) (graph : PlainGraph) → map plain_branch all ≡ typed_branches graph
    → flat_map (λ (one : TypedBranch). f (plain_branch one)) all ≡ flat_map f (typed_branches graph)
of_plain f all graph is = sym (flat_map-map f plain_branch all) ∙ ap (flat_map f) is

module _ (graph : PlainGraph) where
  -- the node and the arm of a branch
  record Origin (one : PlainBranch) : Type 0 where
    pub at : ℕ
    pub node : Node
    pub arm : Arm
    pub here : slice_get graph.nodes at ≡ Some node
    pub has_arm : Contains node.arms arm
    pub state_is : node.state ≡ one.state
    pub first : find (has_bit arm.types) types ≡ Some one.rtype
    pub has_branch : Contains arm.branches one.branch

  in_arm : (at : ℕ) (node : Node) (arm : Arm) (one : PlainBranch) → slice_get graph.nodes at ≡ Some node → Contains node.arms arm
      → Contains (arm_branches node.state arm) one → Origin one
  in_arm at node arm one here has_arm has = by (find (has_bit arm.types) types) refl has where
    by : (first : Option RrType) → find (has_bit arm.types) types ≡ first
        → Contains (option_map_or (λ rtype. map (plain node.state rtype) arm.branches) first []) one → Origin one
    by None is has = absurd (none_in_nil one has)
    by (Some rtype) is has =
        let from = from_map (plain node.state rtype) arm.branches one has in
        record {
          at = at;
          node = node;
          arm = arm;
          here = here;
          has_arm = has_arm;
          state_is = ap (λ (b : PlainBranch). b.state) from.2;
          first = is ∙ ap (λ (b : PlainBranch). Some b.rtype) from.2;
          has_branch = subst (Contains arm.branches) (ap (λ (b : PlainBranch). b.branch) from.2) from.1;
        }

  origin : (one : PlainBranch) → Contains (typed_branches graph) one → Origin one
  origin one has =
      let of_node = from_flat_map node_branches graph.nodes one has in
      let of_arm = from_flat_map (arm_branches of_node.0.state) of_node.0.arms one of_node.2 in
      let place = place_of_item graph.nodes of_node.0 of_node.1 in
      in_arm place.0 of_node.0 of_arm.0 one place.1 of_arm.1 of_arm.2

  -- a branch of an arm is there with the arm's first type
  there : (at : ℕ) (node : Node) (arm : Arm) (branch : Branch) (rtype : RrType) → slice_get graph.nodes at ≡ Some node → Contains node.arms arm
      → find (has_bit arm.types) types ≡ Some rtype → Contains arm.branches branch → Contains (typed_branches graph) (plain node.state rtype branch)
  there at node arm branch rtype here has_arm first has =
      let one = plain node.state rtype branch in
      let all : Contains (arm_branches node.state arm) one =
      subst (λ t. Contains (option_map_or (λ r. map (plain node.state r) arm.branches) t []) one) (sym first) (map_has (plain node.state rtype) arm.branches branch has) in
      flat_map_has node_branches graph.nodes node one (item_there graph.nodes at node here) (flat_map_has (arm_branches node.state) node.arms arm one has_arm all)

module _ (setting : Setting) (query : Labels) (graph : PlainGraph) (is : IsGraphOf setting query graph) where
  -- a node has the branch for the type
  pub record BranchFor (one : PlainBranch) : Type 0 where
    pub at : ℕ
    pub number : ℕ
    pub node : Node
    pub has : HasBranch graph one.rtype at number node one.branch
    pub state_is : node.state ≡ one.state

  -- each branch of the list is one that a node has for its type
  pub branch_there : (one : PlainBranch) → Contains (typed_branches graph) one → BranchFor one
  branch_there one has =
      let of = origin graph one has in
      let typed : has_bit of.arm.types one.rtype ≡ true = (found_there (has_bit of.arm.types) types one.rtype of.first).1 in
      let arm = one_arm of.node of.arm one.rtype (is.apart of.at of.node of.here) of.has_arm typed in
      let branch = branch_for graph of.at of.node of.arm one.branch one.rtype of.here arm of.has_branch in
      record { at = of.at; number = branch.0; node = of.node; has = branch.1; state_is = of.state_is }

  -- a branch that a node has for a type is there with that type, or with one that has a lower number
  pub record TypedFor (rtype : RrType) (node : Node) (branch : Branch) : Type 0 where
    pub first : RrType
    pub has : Contains (typed_branches graph) (plain node.state first branch)
    pub not_later : number_of first ≤ number_of rtype

  -- each branch that a node has for a type is in the list, with this type or one with a lower number
  pub typed_for : (rtype : RrType) (at number : ℕ) (node : Node) (branch : Branch) → HasBranch graph rtype at number node branch → TypedFor rtype node branch
  typed_for rtype at number node branch has =
      let of = of_arm setting query graph rtype is at number node branch has in
      by of (find (has_bit of.arm.types) types) refl
    where
      by : (of : OfArm setting query graph rtype is at node number branch) (first : Option RrType) → find (has_bit of.arm.types) types ≡ first → TypedFor rtype node branch
      by of None none = absurd (true≢false (sym of.typed ∙ (first_none (has_bit of.arm.types) None (sym none)).0 refl rtype))
      by of (Some first) found =
          record {
            first = first;
            has = there graph at node of.arm branch first of.in_graph.is_node of.in_graph.has_arm found (item_there of.arm.branches number branch of.there);
            not_later = first_least (has_bit of.arm.types) (Some first) (sym found) rtype of.typed;
          }

  -- ---- what a function of a branch gives

  module _ (faults : State → Branch → List Fault) where
    -- what holds of all that each branch of a node gives holds of all that is seen in the graph
    pub each_seen : (P : RrType → Fault → Type 0)
        → ((rtype : RrType) (at number : ℕ) (node : Node) (branch : Branch) (fault : Fault) → HasBranch graph rtype at number node branch
        → Contains (faults node.state branch) fault → P rtype fault)
        → (seen : Seen) → Contains (seen_by faults graph) seen → P seen.rtype seen.fault
    each_seen P each seen has =
        let from = from_flat_map (branch_seen faults) (typed_branches graph) seen has in
        let one = from.0 in
        let of = from_map (λ (fault : Fault). record { fault = fault; rtype = one.rtype }) (faults one.state one.branch) seen from.2 in
        let branch = branch_there one from.1 in
        subst (λ (s : Seen). P s.rtype s.fault) of.2
        (each one.rtype branch.at branch.number branch.node one.branch of.0 branch.has
        (subst (λ (state : State). Contains (faults state one.branch) of.0) (sym branch.state_is) of.1))

    -- what a branch of a node gives is covered by what is seen in the graph
    pub seen_there : (rtype : RrType) (at number : ℕ) (node : Node) (branch : Branch) (fault : Fault) → HasBranch graph rtype at number node branch
        → Contains (faults node.state branch) fault → IsCovered (seen_by faults graph) (record { fault = fault; rtype = rtype })
    seen_there rtype at number node branch fault has among =
        let typed = typed_for rtype at number node branch has in
        record {
          by = record { fault = fault; rtype = typed.first };
          has = flat_map_has (branch_seen faults) (typed_branches graph) (plain node.state typed.first branch) (record { fault = fault; rtype = typed.first }) typed.has
              (map_has (λ (f : Fault). record { fault = f; rtype = typed.first }) (faults node.state branch) fault among);
          fault_is = refl;
          not_later = typed.not_later;
        }
