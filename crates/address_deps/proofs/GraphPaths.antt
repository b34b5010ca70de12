-- The paths of a graph's turns give an address where the walks of its query do.
use Rattle.std.proofs.Common.{◌≡◌, ◌↔◌, ℕ, Bool, true, false, ◌&&◌, List, [], ◌∷◌, length, Contains, Option, Some, None, refl, sym, ap, ◌∙◌, subst, inl, inr, ◌==◌}
use Rattle.std.specs.Prelude.{◌⊎◌, slice_get, is_some, option_and_then}
use Rattle.std.specs.List.{AllZip}
use Rattle.std.specs.Option.{option_map_or}
use Rattle.std.proofs.Math.Bool.{and-false}
use Rattle.dns_data.specs.Name.{Labels}
use Rattle.dns_data.specs.TypeSet.{has_bit}
use Rattle.dns_data.specs.declared.rr_type.RrType.{RrType}
use Rattle.dns_data.specs.declared.rr_type.RrType.TheVariants as types
use Rattle.dns_data.proofs.Searches.{found_there}
use Rattle.net_model.specs.declared.config.Config.{Config}
use Rattle.net_model.specs.declared.walk.Hop.{Hop}
use Rattle.net_model.specs.declared.walk.Leaf.TheVariants.{NoAddress}
use Rattle.net_model.specs.declared.walk.State.{State}
use Rattle.net_model.specs.declared.walk.Walk.{Walk}
use Rattle.net_model.specs.Learnt.{gives_address, Learns, LearnsBy}
use Rattle.net_model.specs.Nearest.{server_names}
use Rattle.net_model.specs.Step.{following, start, next}
use Rattle.net_model.specs.Step as step
use Rattle.net_model.specs.Walk.{branched, walk_from, walk_along}
use Rattle.net_model.proofs.LearntSets.{walk_gives}
use Rattle.graph_form.specs.Graph.{PlainGraph, arm_of, branches_of}
use Rattle.graph_form.specs.GraphOf.{IsArm, HasState, HasType, TellsStep, IsGraphOf}
use Rattle.graph_form.specs.declared.node.Arm.{Arm}
use Rattle.graph_form.specs.declared.node.Branch.{Branch}
use Rattle.graph_form.specs.declared.node.Branch.TheVariants.{Go, End}
use Rattle.graph_form.specs.declared.node.Node.{Node}
use Rattle.graph_form.proofs.Paths.{same_item}
use Rattle.graph_form.proofs.Places.{PairAt, pair_at, item_there, place_of_item}
use Rattle.address_deps.specs.Giving.{AreTurnsOf, ArePathsOf, IsTurnOf, branch_gives, may_take}
use Rattle.address_deps.specs.Addresses.{AreServers, PathGives, gives_from, node_gives, turn_gives}
use Rattle.address_deps.specs.declared.addresses.AddressPaths.{AddressPaths}
use Rattle.address_deps.specs.declared.addresses.Turn.{Turn}
use Rattle.address_deps.proofs.MoreFollowed.{Narrowed, next_narrowed, from_giving, gives_led, ended_gives}

-- at each place two lists both have an item of a pair, or neither has one
abbrev Pairs : {A B : Type 0} → (A → B → Type 0) → List A → List B → ℕ → Type 0
Pairs R xs ys number = ((slice_get xs number ≡ None) × (slice_get ys number ≡ None)) ⊎ PairAt R xs ys number

module _ (config : Config) (rewrites : ℕ) (followed : List Labels) (servers : AreServers config followed) (query : Labels) (graph : PlainGraph) (rtype : RrType)
    (is : IsGraphOf (following config rewrites (server_names config)) query graph) (nodes : List (List Turn)) (are : AreTurnsOf config graph rtype nodes) where
  abbrev by_branch : (ℕ → Bool) → Bool → Option Branch → Bool
  by_branch on is_last found = option_map_or (branch_gives config followed on is_last) found false

  abbrev from_here : List ℕ → ℕ → Bool
  from_here numbers at = gives_from followed nodes numbers at

  abbrev few : List ℕ → State → Option Walk
  few numbers state = walk_from (following config rewrites followed) rtype numbers state

  -- by the turn with a number a path gives an address where it does by the branch with that number
  turn_at : (branches : List Branch) (turns : List Turn) → AllZip (IsTurnOf config) branches turns → (on : ℕ → Bool) (is_last : Bool) (number : ℕ)
      → option_map_or (turn_gives followed on is_last) (slice_get turns number) false ≡ by_branch on is_last (slice_get branches number)
  turn_at branches turns all on is_last number = by (pair_at (IsTurnOf config) branches turns all number) where
    by : Pairs (IsTurnOf config) branches turns number
        → option_map_or (turn_gives followed on is_last) (slice_get turns number) false ≡ by_branch on is_last (slice_get branches number)
    by (inl none) =
        ap (λ (turn : Option Turn). option_map_or (turn_gives followed on is_last) turn false) none.1
        ∙ sym (ap (by_branch on is_last) none.0)
    by (inr pair) =
        ap (λ (turn : Option Turn). option_map_or (turn_gives followed on is_last) turn false) pair.at_other
        ∙ (pair.paired followed servers on is_last ∙ sym (ap (by_branch on is_last) pair.at_one))

  abbrev SameRest : List ℕ → Type 0
  SameRest numbers = (at : ℕ) (node : Node) → slice_get graph.nodes at ≡ Some node → is_some (arm_of node rtype) ≡ true
      → from_here numbers at ≡ walk_gives (few numbers node.state)

  -- a branch of an arm gives what that of a state gives which it tells
  one_branch : (numbers : List ℕ) (state : State) (one : Branch) (other narrow : step.Branch) → TellsStep graph one other → Narrowed config followed other narrow
      → ((hop : Hop) (to : ℕ) → one ≡ Go hop to → HasType graph rtype to) → SameRest numbers
      → branch_gives config followed (from_here numbers) (length numbers == 0) one
      ≡ walk_gives (branched state (length numbers == 0) (few numbers) (Some narrow))
  one_branch numbers state (Go hop to) other narrow (next_state, tells, (node, here, has)) narrowed goes rest =
      let typed = goes hop to refl in
      let same : typed.0 ≡ node = same_item (slice_get graph.nodes to) typed.0 node typed.1 here in
      let later : from_here numbers to ≡ walk_gives (few numbers next_state) =
      rest to node here (subst (λ (n : Node). is_some (arm_of n rtype) ≡ true) same typed.2) ∙ ap (λ (s : State). walk_gives (few numbers s)) has in
      by later (subst (λ (b : step.Branch). Narrowed config followed b narrow) tells narrowed)
    where
      by : from_here numbers to ≡ walk_gives (few numbers next_state) → Narrowed config followed (step.Go hop next_state) narrow
          → (may_take config followed hop && from_here numbers to) ≡ walk_gives (branched state (length numbers == 0) (few numbers) (Some narrow))
      by later (inl (free, made)) =
          ap (λ (b : Bool). b && from_here numbers to) free ∙ later ∙ sym (gives_led state hop (few numbers next_state))
          ∙ sym (ap (λ (b : step.Branch). walk_gives (branched state (length numbers == 0) (few numbers) (Some b))) made)
      by later (inr (shut, (ns, made))) =
          ap (λ (b : Bool). b && from_here numbers to) shut ∙ sym (and-false (length numbers == 0))
          ∙ sym (ended_gives state (few numbers) (length numbers == 0) (Some hop) (NoAddress ns))
          ∙ sym (ap (λ (b : step.Branch). walk_gives (branched state (length numbers == 0) (few numbers) (Some b))) made)
  one_branch numbers state (End hop leaf) other narrow tells narrowed goes rest =
      by (subst (λ (b : step.Branch). Narrowed config followed b narrow) tells narrowed)
    where
      by : Narrowed config followed (step.End hop leaf) narrow
          → ((length numbers == 0) && gives_address leaf) ≡ walk_gives (branched state (length numbers == 0) (few numbers) (Some narrow))
      by (inl made) =
          sym (ended_gives state (few numbers) (length numbers == 0) hop leaf)
          ∙ sym (ap (λ (b : step.Branch). walk_gives (branched state (length numbers == 0) (few numbers) (Some b))) made)
      by (inr (none, (ns, made))) =
          ap (λ (b : Bool). (length numbers == 0) && b) none
          ∙ sym (ended_gives state (few numbers) (length numbers == 0) hop (NoAddress ns))
          ∙ sym (ap (λ (b : step.Branch). walk_gives (branched state (length numbers == 0) (few numbers) (Some b))) made)

  abbrev full : State → List step.Branch
  full state = next (following config rewrites (server_names config)) rtype state

  abbrev narrow_next : State → List step.Branch
  narrow_next state = next (following config rewrites followed) rtype state

  by_number : (numbers : List ℕ) (state : State) (branches : List Branch) (number : ℕ) → Pairs (TellsStep graph) branches (full state) number
      → Pairs (Narrowed config followed) (full state) (narrow_next state) number
      → ((hop : Hop) (to : ℕ) → Contains branches (Go hop to) → HasType graph rtype to) → SameRest numbers
      → by_branch (from_here numbers) (length numbers == 0) (slice_get branches number)
      ≡ walk_gives (branched state (length numbers == 0) (few numbers) (slice_get (narrow_next state) number))
  by_number numbers state branches number (inl none) (inl also) goes rest =
      ap (by_branch (from_here numbers) (length numbers == 0)) none.0
      ∙ sym (ap (λ (b : Option step.Branch). walk_gives (branched state (length numbers == 0) (few numbers) b)) also.1)
  by_number numbers state branches number (inl none) (inr pair) goes rest =
      let no : None ≡ Some pair.one = sym none.1 ∙ pair.at_one in cc
  by_number numbers state branches number (inr pair) (inl none) goes rest =
      let no : None ≡ Some pair.other = sym none.0 ∙ pair.at_other in cc
  by_number numbers state branches number (inr pair) (inr other) goes rest =
      let same : other.one ≡ pair.other = same_item (slice_get (full state) number) other.one pair.other other.at_one pair.at_other in
      ap (by_branch (from_here numbers) (length numbers == 0)) pair.at_one
      ∙ one_branch numbers state pair.one pair.other other.other pair.paired (subst (λ (b : step.Branch). Narrowed config followed b other.other) same other.paired)
      (λ hop to made. goes hop to (subst (Contains branches) made pair.has)) rest
      ∙ sym (ap (λ (b : Option step.Branch). walk_gives (branched state (length numbers == 0) (few numbers) b)) other.at_other)

  -- the rest of a path gives what the rest of the walk gives
  same_rest : (numbers : List ℕ) → SameRest numbers
  same_rest [] at node here has = refl
  same_rest (number ∷ numbers) at node here has =
      by_turns (pair_at (λ (n : Node) (turns : List Turn). AllZip (IsTurnOf config) (branches_of n rtype) turns) graph.nodes nodes are at) (same_rest numbers)
    where
      by : SameRest numbers → (arm : Option Arm) → arm_of node rtype ≡ arm → is_some arm ≡ true
          → by_branch (from_here numbers) (length numbers == 0) (slice_get (option_map_or (λ arm. arm.branches) (arm_of node rtype) []) number)
          ≡ walk_gives (branched node.state (length numbers == 0) (few numbers) (slice_get (narrow_next node.state) number))
      by rest None e some = cc
      by rest (Some arm) e some =
          let found = found_there (λ (arm : Arm). has_bit arm.types rtype) node.arms arm e in
          let in_graph : IsArm graph at node arm = record { is_node = here; has_arm = found.0 } in
          ap (λ (found : Option Arm). by_branch (from_here numbers) (length numbers == 0) (slice_get (option_map_or (λ arm. arm.branches) found []) number)) e
          ∙ by_number numbers node.state arm.branches number
          (pair_at (TellsStep graph) arm.branches (full node.state) (is.steps at node arm rtype in_graph found.1) number)
          (pair_at (Narrowed config followed) (full node.state) (narrow_next node.state)
          (next_narrowed config rewrites followed (server_names config) servers rtype node.state) number)
          (is.closed at node arm rtype in_graph found.1) rest

      by_turns : Pairs (λ (n : Node) (turns : List Turn). AllZip (IsTurnOf config) (branches_of n rtype) turns) graph.nodes nodes at → SameRest numbers
          → from_here (number ∷ numbers) at ≡ walk_gives (few (number ∷ numbers) node.state)
      by_turns (inl none) rest = let no : None ≡ Some node = sym none.0 ∙ here in cc
      by_turns (inr pair) rest =
          let same : pair.one ≡ node = same_item (slice_get graph.nodes at) pair.one node pair.at_one here in
          ap (node_gives followed (from_here numbers) number (length numbers == 0)) pair.at_other
          ∙ (turn_at (branches_of node rtype) pair.other (subst (λ (n : Node). AllZip (IsTurnOf config) (branches_of n rtype) pair.other) same pair.paired)
          (from_here numbers) (length numbers == 0) number
          ∙ by rest (arm_of node rtype) refl has)

  -- whether the path from a start with these numbers gives an address
  abbrev path_gives : List ℕ → Bool
  path_gives [] = false
  path_gives (number ∷ numbers) = option_map_or (from_here numbers) (slice_get graph.starts number) false

  -- it gives what the walk gives
  same_along : (numbers : List ℕ) → path_gives numbers ≡ walk_gives (walk_along (following config rewrites followed) query rtype numbers)
  same_along [] = refl
  same_along (number ∷ numbers) = by (pair_at (HasState graph) graph.starts (start config query) is.starts number) where
    by : Pairs (HasState graph) graph.starts (start config query) number
        → option_map_or (from_here numbers) (slice_get graph.starts number) false ≡ walk_gives (option_and_then (few numbers) (slice_get (start config query) number))
    by (inl none) =
        ap (λ (at : Option ℕ). option_map_or (from_here numbers) at false) none.0
        ∙ sym (ap (λ (s : Option State). walk_gives (option_and_then (few numbers) s)) none.1)
    by (inr pair) =
        let node = pair.paired.0 in
        let typed = is.all_types pair.one pair.has rtype in
        let one : typed.0 ≡ node = same_item (slice_get graph.nodes pair.one) typed.0 node typed.1 pair.paired.1 in
        ap (λ (at : Option ℕ). option_map_or (from_here numbers) at false) pair.at_one
        ∙ (same_rest numbers pair.one node pair.paired.1 (subst (λ (n : Node). is_some (arm_of n rtype) ≡ true) one typed.2)
        ∙ (ap (λ (s : State). walk_gives (few numbers s)) pair.paired.2
        ∙ sym (ap (λ (s : Option State). walk_gives (option_and_then (few numbers) s)) pair.at_other)))

  -- a path from a start gives an address exactly where an address of the name is learnt
  paths_learn : PathGives followed nodes graph.starts ↔ LearnsBy (following config rewrites followed) query rtype
  paths_learn = (there, back) where
    there : PathGives followed nodes graph.starts → LearnsBy (following config rewrites followed) query rtype
    there path =
        let place = place_of_item graph.starts path.at path.starts_there in
        from_giving (following config rewrites followed) query rtype (place.0 ∷ path.numbers)
        (sym (same_along (place.0 ∷ path.numbers)) ∙ (ap (λ (at : Option ℕ). option_map_or (from_here path.numbers) at false) place.1 ∙ path.gives))

    by : (numbers : List ℕ) → path_gives numbers ≡ true → PathGives followed nodes graph.starts
    by [] e = cc
    by (number ∷ numbers) e = at_start (slice_get graph.starts number) refl e where
      at_start : (at : Option ℕ) → slice_get graph.starts number ≡ at → option_map_or (from_here numbers) at false ≡ true → PathGives followed nodes graph.starts
      at_start None there e = cc
      at_start (Some at) there e = record { at = at; numbers = numbers; starts_there = item_there graph.starts number at there; gives = e }

    back : LearnsBy (following config rewrites followed) query rtype → PathGives followed nodes graph.starts
    back learns = by learns.is_walk.0 (same_along learns.is_walk.0 ∙ (ap walk_gives learns.is_walk.1 ∙ learns.ends))

-- a path of a graph's turns with one of the types gives an address exactly where an address of the graph's query is learnt
pub paths_tell : (config : Config) (rewrites : ℕ) (query : Labels) (graph : PlainGraph) (paths : AddressPaths)
    → IsGraphOf (following config rewrites (server_names config)) query graph → ArePathsOf config graph paths → (followed : List Labels) → AreServers config followed
    → (PathGives followed paths.four paths.starts ⊎ PathGives followed paths.six paths.starts) ↔ Learns (following config rewrites followed) query
paths_tell config rewrites query graph paths is are followed servers =
    let four = paths_learn config rewrites followed servers query graph types.A is paths.four are.four in
    let six = paths_learn config rewrites followed servers query graph types.Aaaa is paths.six are.six in (
      λ gives. elim gives [
        | inl by_four ↦ inl (four.0 (subst (PathGives followed paths.four) are.starts by_four))
        | inr by_six ↦ inr (six.0 (subst (PathGives followed paths.six) are.starts by_six))
      ],
      λ learns. elim learns [
        | inl by_four ↦ inl (subst (PathGives followed paths.four) (sym are.starts) (four.1 by_four))
        | inr by_six ↦ inr (subst (PathGives followed paths.six) (sym are.starts) (six.1 by_six))
      ],
    )
