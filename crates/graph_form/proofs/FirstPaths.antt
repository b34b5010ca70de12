-- The first path that takes a branch that shows a fault, found branch by branch.
use Rattle.std.proofs.Common.{◌≡◌, ◌≢◌, ℕ, ◌+◌, ◌<◌, Bool, true, false, cond, ◌&&◌, ◌||◌, List, [], ◌∷◌, ◌++◌, length, map, reverse, refl, sym, ap, ◌∙◌, subst, inl, inr, Some, None, nat_lt, ◌==◌, arith, append_assoc, true≢false}
use Rattle.std.specs.Prelude.{slice_get, Option}
use Rattle.std.specs.Option.{option_map_or}
use Rattle.std.specs.Ordering.{ordering_then}
use Rattle.std.specs.declared.cmp.Ordering.TheVariants.{Less, Equal, Greater}
use Rattle.std.proofs.lemmas.Bool.{cases_eq}
use Rattle.std.proofs.lemmas.Bool.Decides.{nat_tests}
use Rattle.std.proofs.lemmas.List.{map-append, reverse-append}
use Rattle.std.proofs.lemmas.Option.{slice_get_within}
use Rattle.dns_data.specs.declared.rr_type.RrType.{RrType}
use Rattle.net_model.specs.Walk.{path_cmp}
use Rattle.net_model.specs.declared.walk.Hop.{Hop}
use Rattle.net_model.specs.declared.walk.Leaf.{Leaf}
use Rattle.net_model.specs.declared.walk.State.{State}
use Rattle.graph_form.specs.FirstPath.{takes_by, node_takes, takes_from, takes_along, IsBarren, IsFirstFrom, IsFirstAlong}
use Rattle.graph_form.specs.Graph.{HasBranch, PlainGraph, branches_of}
use Rattle.graph_form.specs.declared.first_path.Turn.{Turn}
use Rattle.graph_form.specs.declared.node.Branch.{Branch}
use Rattle.graph_form.specs.declared.node.Branch.TheVariants.{Go, End}
use Rattle.graph_form.specs.declared.node.Node.{Node}

-- a test and one that fails fail together
pub fails_after : (a b : Bool) → b ≡ false → (a && b) ≡ false
fails_after true b e = e
fails_after false b e = refl

-- numbers of which the first isn't lower and, where it is the same, the others don't come before
pub not_before : (k j : ℕ) (rest others : List ℕ) → (j < k → ⊥) → (j ≡ k → path_cmp others rest ≢ Less)
    → path_cmp (j ∷ others) (k ∷ rest) ≢ Less
not_before k j rest others none same = by (nat_lt j k) refl (j == k) refl where
  by : (b : Bool) → nat_lt j k ≡ b → (c : Bool) → (j == k) ≡ c
      → ordering_then (cond b Less (cond c Equal Greater)) (path_cmp others rest) ≡ Less → ⊥
  by true below c is e = absurd (none (grind (arith, nat_tests, below)))
  by false below true is e = same (grind (arith, nat_tests, is)) e
  by false below false is e = cc

-- no numbers come before none
none_before_none : (others : List ℕ) → path_cmp others [] ≢ Less
none_before_none [] e = cc
none_before_none (number ∷ numbers) e = cc

module _ (shows : State → Branch → Bool) (graph : PlainGraph) (rtype : RrType) where
  -- the rest of a path is by the branch with its first number
  pub by_number : (numbers : List ℕ) (taken : Bool) (at number : ℕ) (node : Node) (branch : Branch) → HasBranch graph rtype at number node branch
      → takes_from shows graph rtype (number ∷ numbers) taken at
      ≡ takes_by (takes_from shows graph rtype numbers) shows node.state (length numbers == 0) taken (Some branch)
  by_number numbers taken at number node branch has =
      ap (node_takes (takes_from shows graph rtype numbers) shows rtype number (length numbers == 0) taken) has.here
      ∙ ap (takes_by (takes_from shows graph rtype numbers) shows node.state (length numbers == 0) taken) has.there

  -- no path by the branch with a number takes one that shows
  abbrev pub LeavesUntaken : Bool → ℕ → ℕ → Type 0
  LeavesUntaken taken at number = (numbers : List ℕ) → takes_from shows graph rtype (number ∷ numbers) taken at ≡ false

  -- the branch completes no path with a branch that shows: its node is barren, or it is an end and none was taken
  -- before
  abbrev pub LeadsNowhere : Bool → Branch → Type 0
  LeadsNowhere taken (Go hop to) = IsBarren shows graph rtype taken to
  LeadsNowhere taken (End hop leaf) = taken ≡ false

  nowhere_passes : (taken : Bool) (at number : ℕ) (node : Node) (branch : Branch) → HasBranch graph rtype at number node branch
      → LeadsNowhere (taken || shows node.state branch) branch → LeavesUntaken taken at number
  nowhere_passes taken at number node (Go hop to) has nowhere numbers =
      by_number numbers taken at number node (Go hop to) has ∙ nowhere numbers
  nowhere_passes taken at number node (End hop leaf) has nowhere numbers =
      by_number numbers taken at number node (End hop leaf) has ∙ fails_after (length numbers == 0) _ nowhere

  -- no path by the branch with a number takes one that shows, if the branch, where there is one, leads nowhere
  pub passes : (taken : Bool) (at number : ℕ)
      → ((node : Node) (branch : Branch) → HasBranch graph rtype at number node branch → LeadsNowhere (taken || shows node.state branch) branch)
      → LeavesUntaken taken at number
  passes taken at number nowhere = by (slice_get graph.nodes at) refl where
    by_branch : (node : Node) → slice_get graph.nodes at ≡ Some node → (branch : Option Branch) → slice_get (branches_of node rtype) number ≡ branch
        → LeavesUntaken taken at number
    by_branch node here None there =
        λ numbers. ap (node_takes (takes_from shows graph rtype numbers) shows rtype number (length numbers == 0) taken) here
        ∙ ap (takes_by (takes_from shows graph rtype numbers) shows node.state (length numbers == 0) taken) there
    by_branch node here (Some branch) there =
        let has : HasBranch graph rtype at number node branch = record { here = here; there = there } in
        nowhere_passes taken at number node branch has (nowhere node branch has)

    by : (node : Option Node) → slice_get graph.nodes at ≡ node → LeavesUntaken taken at number
    by None here = λ numbers. ap (node_takes (takes_from shows graph rtype numbers) shows rtype number (length numbers == 0) taken) here
    by (Some node) here = by_branch node here (slice_get (branches_of node rtype) number) refl

  -- a node of which each branch leads nowhere is barren
  pub barren_by : (taken : Bool) (at : ℕ) → ((number : ℕ) → LeavesUntaken taken at number) → IsBarren shows graph rtype taken at
  barren_by taken at pass [] = refl
  barren_by taken at pass (number ∷ numbers) = pass number numbers

  -- ---- the first path

  -- a branch with a first path behind it begins the first path from its node, if the branches before it lead nowhere
  pub goes_first : (taken : Bool) (at number to : ℕ) (hop : Hop) (node : Node) (rest : List ℕ) → HasBranch graph rtype at number node (Go hop to)
      → ((j : ℕ) → j < number → LeavesUntaken taken at j) → IsFirstFrom shows graph rtype (taken || shows node.state (Go hop to)) to rest
      → IsFirstFrom shows graph rtype taken at (number ∷ rest)
  goes_first taken at number to hop node rest has before later =
      record { takes = by_number rest taken at number node (Go hop to) has ∙ later.takes; first = by }
    where
      by : (others : List ℕ) → takes_from shows graph rtype others taken at ≡ true → path_cmp others (number ∷ rest) ≢ Less
      by [] takes = cc
      by (j ∷ others) takes =
          not_before number j rest others (λ below. true≢false (sym takes ∙ before j below others))
          (λ same. later.first others
          (sym (by_number others taken at number node (Go hop to) has)
          ∙ (ap (λ n. takes_from shows graph rtype (n ∷ others) taken at) (sym same) ∙ takes)))

  -- a branch that is an end that shows is the first path from a node, if the branches before it lead nowhere
  pub ends_first : (taken : Bool) (at number : ℕ) (hop : Option Hop) (leaf : Leaf) (node : Node) → HasBranch graph rtype at number node (End hop leaf)
      → ((j : ℕ) → j < number → LeavesUntaken taken at j) → (taken || shows node.state (End hop leaf)) ≡ true
      → IsFirstFrom shows graph rtype taken at (number ∷ [])
  ends_first taken at number hop leaf node has before shown =
      record { takes = by_number [] taken at number node (End hop leaf) has ∙ shown; first = by }
    where
      by : (others : List ℕ) → takes_from shows graph rtype others taken at ≡ true → path_cmp others (number ∷ []) ≢ Less
      by [] takes = cc
      by (j ∷ others) takes =
          not_before number j [] others (λ below. true≢false (sym takes ∙ before j below others)) (λ same. none_before_none others)

  -- ---- the path of a search, the last node first

  -- the turn's branch leads to the node
  pub record LedBy (Rest : Type 0) (turn : Turn) (taken : Bool) (at : ℕ) : Type 0 where
    pub hop : Hop
    pub node : Node
    pub has : HasBranch graph rtype turn.node turn.number node (Go hop at)
    pub taken_is : taken ≡ (turn.taken || shows node.state (Go hop at))
    pub before : (j : ℕ) → j < turn.number → LeavesUntaken turn.taken turn.node j
    pub rest : Rest

  -- the turns lead from the start to the node
  abbrev pub LedTo : ℕ → List Turn → Bool → ℕ → Type 0
  LedTo start [] taken at = (taken ≡ false) × (at ≡ start)
  LedTo start (turn ∷ below) taken at = LedBy (LedTo start below turn.taken turn.node) turn taken at

  -- turns of which each leads to the next, and before whose branches no path takes one that shows
  abbrev pub AreTurns : ℕ → List Turn → Type 0
  AreTurns start [] = Unit {0}
  AreTurns start (turn ∷ below) =
      ((j : ℕ) → j < turn.number → LeavesUntaken turn.taken turn.node j) × LedTo start below turn.taken turn.node

  -- the turns before the last one lead from the start, each to the next
  pub turns_below : (start : ℕ) (below : List Turn) (taken : Bool) (at : ℕ) → LedTo start below taken at → AreTurns start below
  turns_below start [] taken at led = tt
  turns_below start (turn ∷ below) taken at led = (led.before, led.rest)

  -- the numbers of the turns, and then the rest
  abbrev numbers_up : List Turn → List ℕ → List ℕ
  numbers_up [] rest = rest
  numbers_up (turn ∷ below) rest = numbers_up below (turn.number ∷ rest)

  numbers_are : (below : List Turn) (rest : List ℕ) → numbers_up below rest ≡ map (λ turn. turn.number) (reverse below) ++ rest
  numbers_are [] rest = refl
  numbers_are (turn ∷ below) rest =
      numbers_are below (turn.number ∷ rest)
      ∙ (sym (append_assoc (map (λ (t : Turn). t.number) (reverse below)) (turn.number ∷ []) rest)
      ∙ ap (λ ns. ns ++ rest) (sym (map-append (λ (t : Turn). t.number) (reverse below) (turn ∷ []))
      ∙ ap (map (λ (t : Turn). t.number)) (sym (reverse-append (turn ∷ []) below))))

  -- a first path from the node is, behind the turns that lead there, first from the start
  first_up : (start : ℕ) (below : List Turn) (taken : Bool) (at : ℕ) (rest : List ℕ) → LedTo start below taken at
      → IsFirstFrom shows graph rtype taken at rest → IsFirstFrom shows graph rtype false start (numbers_up below rest)
  first_up start [] taken at rest (not_taken, is_start) first =
      subst (λ t. IsFirstFrom shows graph rtype t start rest) not_taken
      (subst (λ a. IsFirstFrom shows graph rtype taken a rest) is_start first)
  first_up start (turn ∷ below) taken at rest led first =
      first_up start below turn.taken turn.node (turn.number ∷ rest) led.rest
      (goes_first turn.taken turn.node turn.number at led.hop led.node rest led.has led.before
      (subst (λ t. IsFirstFrom shows graph rtype t at rest) led.taken_is first))

  -- what is first from the node to which turns lead is, behind their numbers, first from the start
  pub first_behind : (start : ℕ) (below : List Turn) (taken : Bool) (at : ℕ) (rest : List ℕ) → LedTo start below taken at
      → IsFirstFrom shows graph rtype taken at rest
      → IsFirstFrom shows graph rtype false start (map (λ turn. turn.number) (reverse below) ++ rest)
  first_behind start below taken at rest led first =
      subst (IsFirstFrom shows graph rtype false start) (numbers_are below rest) (first_up start below taken at rest led first)

  -- ---- from the starts

  -- the starts before one are barren
  abbrev pub BarrenStarts : ℕ → Type 0
  BarrenStarts number = (k at : ℕ) → k < number → slice_get graph.starts k ≡ Some at → IsBarren shows graph rtype false at

  -- the starts before one and that one are barren, if it is
  pub barren_start_more : (number start : ℕ) → slice_get graph.starts number ≡ Some start → IsBarren shows graph rtype false start → BarrenStarts number
      → BarrenStarts (number + 1)
  barren_start_more number start is barren before k at less is_at =
      elim (cases_eq k number) [
        | inl same ↦ (
            let found : slice_get graph.starts number ≡ Some at = ap (slice_get graph.starts) (sym same) ∙ is_at in
            let one : start ≡ at = cc in
            subst (λ a. IsBarren shows graph rtype false a) one barren)
        | inr other ↦ before k at (omega arith) is_at
      ]

  -- no path by a start takes a branch that shows, where the start, if there is one, is barren
  start_passes : (numbers : List ℕ) (number : ℕ) → ((at : ℕ) → slice_get graph.starts number ≡ Some at → IsBarren shows graph rtype false at)
      → takes_along shows graph rtype (number ∷ numbers) ≡ false
  start_passes numbers number barren = by (slice_get graph.starts number) refl where
    by : (start : Option ℕ) → slice_get graph.starts number ≡ start → takes_along shows graph rtype (number ∷ numbers) ≡ false
    by None is = ap (λ start. option_map_or (takes_from shows graph rtype numbers false) start false) is
    by (Some at) is = ap (λ start. option_map_or (takes_from shows graph rtype numbers false) start false) is ∙ barren at is numbers

  -- the first path from the first start that isn't barren is first
  pub first_along : (number at : ℕ) (rest : List ℕ) → slice_get graph.starts number ≡ Some at → BarrenStarts number
      → IsFirstFrom shows graph rtype false at rest → IsFirstAlong shows graph rtype (number ∷ rest)
  first_along number at rest is before first =
      record { takes = by_start rest ∙ first.takes; first = by }
    where
      by_start : (others : List ℕ) → takes_along shows graph rtype (number ∷ others) ≡ takes_from shows graph rtype others false at
      by_start others = ap (λ start. option_map_or (takes_from shows graph rtype others false) start false) is

      by : (others : List ℕ) → takes_along shows graph rtype others ≡ true → path_cmp others (number ∷ rest) ≢ Less
      by [] takes = cc
      by (j ∷ others) takes =
          not_before number j rest others
          (λ less. true≢false (sym takes ∙ start_passes others j (λ a is_a. before j a less is_a)))
          (λ same. first.first others
          (sym (by_start others) ∙ (ap (λ n. takes_along shows graph rtype (n ∷ others)) (sym same) ∙ takes)))

  -- if all starts are barren, no path takes a branch that shows
  pub none_along : BarrenStarts (length graph.starts) → (numbers : List ℕ) → takes_along shows graph rtype numbers ≡ false
  none_along before [] = refl
  none_along before (number ∷ numbers) =
      start_passes numbers number (λ at is. before number at (slice_get_within graph.starts number at is) is)
