-- A path of a graph of a query comes to no node twice: each step uses a rewrite more or has a longer zone cut.
use Rattle.std.proofs.Common.{◌≡◌, ℕ, ◌<◌, Bool, true, List, [], ◌∷◌, refl, sym, ap, ◌∙◌, subst, inl, inr, Some, None, arith}
use Rattle.std.specs.Prelude.{◌⊎◌, Contains, slice_get, Option}
use Rattle.std.specs.Option.{option_map_or}
use Rattle.dns_data.specs.Name.{Labels}
use Rattle.dns_data.specs.TypeSet.{has_bit}
use Rattle.dns_data.specs.declared.rr_type.RrType.{RrType}
use Rattle.dns_data.proofs.Membership.{none_in_nil, first_or_later, from_map}
use Rattle.dns_data.proofs.Searches.{found_there}
use Rattle.net_model.specs.Step.{Setting, arrived, start, next}
use Rattle.net_model.specs.Step as step
use Rattle.net_model.specs.declared.walk.Hop.{Hop}
use Rattle.net_model.specs.declared.walk.Hop.TheVariants.{Refer, Rewrite}
use Rattle.net_model.specs.declared.walk.State.{State}
use Rattle.net_model.proofs.StepBounds.{IsNear, StepsOn, BranchStepsOn, next_steps}
use Rattle.net_model.proofs.WalkEnds.{item}
use Rattle.graph_form.specs.Graph.{HasBranch, PlainGraph, arm_of, branches_of}
use Rattle.graph_form.specs.GraphOf.{HasState, IsArm, IsGraphOf, TellsStep}
use Rattle.graph_form.specs.declared.first_path.Turn.{Turn}
use Rattle.graph_form.specs.declared.node.Arm.{Arm}
use Rattle.graph_form.specs.declared.node.Branch.{Branch}
use Rattle.graph_form.specs.declared.node.Branch.TheVariants.{Go}
use Rattle.graph_form.specs.declared.node.Node.{Node}
use Rattle.graph_form.proofs.FirstPaths.{LedTo}
use Rattle.graph_form.proofs.Paths.{same_item}
use Rattle.graph_form.proofs.Places.{PairAt, pair_at, item_there, place_of_item}

-- the state uses fewer rewrites than the other, or as many and has a shorter zone cut
abbrev pub Earlier : State → State → Type 0
Earlier a b = (a.used < b.used) ⊎ ((a.used ≡ b.used) × (a.cut < b.cut))

-- no state is earlier than itself
pub earlier_than_itself : (a : State) → Earlier a a → ⊥
earlier_than_itself a (inl less) = omega arith
earlier_than_itself a (inr less) = omega (arith, less.1)

-- what is earlier than an earlier state is earlier
pub earlier_still : (a b c : State) → Earlier a b → Earlier b c → Earlier a c
earlier_still a b c (inl one) (inl other) = inl (omega arith)
earlier_still a b c (inl one) (inr other) = inl (omega (arith, other.0))
earlier_still a b c (inr one) (inl other) = inl (omega (arith, one.0))
earlier_still a b c (inr one) (inr other) = inr (one.0 ∙ other.0, omega (arith, one.1, other.1))

module _ (setting : Setting) (query : Labels) (graph : PlainGraph) (rtype : RrType) (is : IsGraphOf setting query graph) where
  -- the branch with a number is one of an arm for the type
  pub record OfArm (at : ℕ) (node : Node) (number : ℕ) (branch : Branch) : Type 0 where
    pub arm : Arm
    pub in_graph : IsArm graph at node arm
    pub typed : has_bit arm.types rtype ≡ true
    pub there : slice_get arm.branches number ≡ Some branch

  -- a branch of a node for a type is one of an arm of the node that has the type
  pub of_arm : (at number : ℕ) (node : Node) (branch : Branch) → HasBranch graph rtype at number node branch → OfArm at node number branch
  of_arm at number node branch has = by (arm_of node rtype) refl has.there where
    by : (arm : Option Arm) → arm_of node rtype ≡ arm → slice_get (branches_of node rtype) number ≡ Some branch → OfArm at node number branch
    by None e there =
        let none : slice_get (branches_of node rtype) number ≡ None = ap (λ arm. slice_get (option_map_or (λ (a : Arm). a.branches) arm []) number) e in
        cc
    by (Some arm) e there =
        let found = found_there (λ (a : Arm). has_bit a.types rtype) node.arms arm e in
        record {
          arm = arm;
          in_graph = record { is_node = has.here; has_arm = found.0 };
          typed = found.1;
          there = sym (ap (λ arm. slice_get (option_map_or (λ (a : Arm). a.branches) arm []) number) e) ∙ there;
        }

  -- a branch of a node for a type tells a step of the node's state
  pub told_step : (at number : ℕ) (node : Node) (branch : Branch) → HasBranch graph rtype at number node branch
      → (other : step.Branch) × (slice_get (next setting rtype node.state) number ≡ Some other) × TellsStep graph branch other
  told_step at number node branch has =
      let of = of_arm at number node branch has in
      by of (pair_at (TellsStep graph) of.arm.branches (next setting rtype node.state) (is.steps at node of.arm rtype of.in_graph of.typed) number)
    where
      by : (of : OfArm at node number branch)
          → ((slice_get of.arm.branches number ≡ None) × (slice_get (next setting rtype node.state) number ≡ None))
          ⊎ PairAt (TellsStep graph) of.arm.branches (next setting rtype node.state) number
          → (other : step.Branch) × (slice_get (next setting rtype node.state) number ≡ Some other) × TellsStep graph branch other
      by of (inl none) = let e = of.there in let f = none.0 in cc
      by of (inr pair) =
          let same : pair.one ≡ branch = same_item (slice_get of.arm.branches number) pair.one branch pair.at_one of.there in
          (pair.other, pair.at_other, subst (λ b. TellsStep graph b pair.other) same pair.paired)

  -- the state of a node
  abbrev StateIs : ℕ → State → Type 0
  StateIs at state = HasState graph at state

  one_state : (at : ℕ) (a b : State) → StateIs at a → StateIs at b → a ≡ b
  one_state at a b (node, here, is_a) (other, there, is_b) =
      let same : node ≡ other = same_item (slice_get graph.nodes at) node other here there in
      sym is_a ∙ (ap (λ (n : Node). n.state) same ∙ is_b)

  -- a branch from a node near its zone leads to a later one, near its own
  record Steps (from to : ℕ) : Type 0 where
    pub one : State
    pub other : State
    pub is_one : StateIs from one
    pub is_other : StateIs to other
    pub near : IsNear setting other
    pub earlier : Earlier one other

  advanced : (a b : State) (hop : Hop) → StepsOn setting a hop b → Earlier a b
  advanced a b (Refer cut) steps = inr (sym steps.advances.0, steps.advances.1)
  advanced a b (Rewrite place by_dname name) steps = inl (omega (arith, steps.advances.0))

  steps_on : (at number to : ℕ) (hop : Hop) (node : Node) → HasBranch graph rtype at number node (Go hop to) → IsNear setting node.state → Steps at to
  steps_on at number to hop node has near =
      let told = told_step at number node (Go hop to) has in
      let branch = item (BranchStepsOn setting node.state) (next setting rtype node.state) number told.0 (next_steps setting node.state rtype near) told.1 in
      let step : StepsOn setting node.state hop told.2.0 = subst (BranchStepsOn setting node.state) told.2.1 branch in
      record {
        one = node.state;
        other = told.2.0;
        is_one = (node, has.here, refl);
        is_other = told.2.2;
        near = step.near;
        earlier = advanced node.state told.2.0 hop step;
      }

  -- a node that comes before another
  record Before (from to : ℕ) : Type 0 where
    pub one : State
    pub other : State
    pub is_one : StateIs from one
    pub is_other : StateIs to other
    pub earlier : Earlier one other

  before_itself : (at : ℕ) → Before at at → ⊥
  before_itself at before =
      earlier_than_itself before.one
      (subst (Earlier before.one) (one_state at before.other before.one before.is_other before.is_one) before.earlier)

  before_still : (a b c : ℕ) → Before a b → Before b c → Before a c
  before_still a b c one other =
      record {
        one = one.one;
        other = other.other;
        is_one = one.is_one;
        is_other = other.is_other;
        earlier =
            earlier_still one.one one.other other.other one.earlier
            (subst (λ s. Earlier s other.other) (one_state b other.one one.other other.is_one one.is_other) other.earlier);
      }

  NearAt : ℕ → Type 0
  NearAt at = (state : State) → StateIs at state → IsNear setting state

  -- a start is near
  start_near : (at : ℕ) → Contains graph.starts at → NearAt at
  unfolding NearAt
  start_near at has state stands =
      let place = place_of_item graph.starts at has in
      by place.0 place.1 (pair_at (HasState graph) graph.starts (start setting.config query) is.starts place.0)
    where
      by : (k : ℕ) → slice_get graph.starts k ≡ Some at
          → ((slice_get graph.starts k ≡ None) × (slice_get (start setting.config query) k ≡ None))
          ⊎ PairAt (HasState graph) graph.starts (start setting.config query) k → IsNear setting state
      by k there (inl none) = let f = none.0 in cc
      by k there (inr pair) =
          let same : pair.one ≡ at = same_item (slice_get graph.starts k) pair.one at pair.at_one there in
          let is_it : pair.other ≡ state = one_state at pair.other state (subst (λ a. HasState graph a pair.other) same pair.paired) stands in
          let from = from_map (arrived setting.config query true 0 None) setting.config.tops pair.other (item_there (start setting.config query) k pair.other pair.at_other) in
          let cut : state.cut ≡ 0 = ap (λ (s : State). s.cut) (sym is_it) ∙ ap (λ (s : State). s.cut) (sym from.2) in
          λ zone nearest. omega (arith, cut)

  module _ (shows : State → Branch → Bool) (begin : ℕ) (begins : Contains graph.starts begin) where
    -- the turns that lead to a node come before it
    record Led (below : List Turn) (at : ℕ) : Type 0 where
      pub near : NearAt at
      pub before : (turn : Turn) → Contains below turn → Before turn.node at

    led : (below : List Turn) (taken : Bool) (at : ℕ) → LedTo shows graph rtype begin below taken at → Led below at
    unfolding NearAt
    led [] taken at (not_taken, is_begin) =
        record { near = subst NearAt (sym is_begin) (start_near begin begins); before = λ turn none. absurd (none_in_nil turn none) }
    led (turn ∷ below) taken at by =
        let rest = led below turn.taken turn.node by.rest in
        let step = steps_on turn.node turn.number at by.hop by.node by.has (rest.near by.node.state (by.node, by.has.here, refl)) in
        let before : Before turn.node at = record { one = step.one; other = step.other; is_one = step.is_one; is_other = step.is_other; earlier = step.earlier } in
        record {
          near = λ state stands. subst (IsNear setting) (one_state at step.other state step.is_other stands) step.near;
          before = λ other among. elim (first_or_later turn below other among) [
            | inl same ↦ subst (λ (t : Turn). Before t.node at) same before
            | inr later ↦ before_still other.node turn.node at (rest.before other later) before
          ];
        }

    -- no branch of the last node leads to one of the nodes before it, or to itself
    pub no_circle : (below : List Turn) (taken : Bool) (at number to : ℕ) (hop : Hop) (node : Node) → LedTo shows graph rtype begin below taken at
        → HasBranch graph rtype at number node (Go hop to) → ((to ≡ at) ⊎ ((turn : Turn) × Contains below turn × (turn.node ≡ to))) → ⊥
    unfolding NearAt
    no_circle below taken at number to hop node by has where_to = of where_to where
      rest : Led below at
      rest = led below taken at by

      before : Before at to
      before =
          let step = steps_on at number to hop node has (rest.near node.state (node, has.here, refl)) in
          record { one = step.one; other = step.other; is_one = step.is_one; is_other = step.is_other; earlier = step.earlier }

      of : ((to ≡ at) ⊎ ((turn : Turn) × Contains below turn × (turn.node ≡ to))) → ⊥
      of (inl same) = before_itself at (subst (Before at) same before)
      of (inr (turn, among, same)) =
          before_itself at (before_still at to at before (subst (λ n. Before n at) same (rest.before turn among)))
