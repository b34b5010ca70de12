-- The ends of the graph of a query are those of its walks.
use Rattle.std.proofs.Common.{◌≡◌, ◌↔◌, Bool, true, false, not, ◌||◌, List, [], ◌∷◌, Contains, Option, Some, None, refl, sym, ap, ◌∙◌, subst, inl, inr, true≢false}
use Rattle.std.proofs.Math.Bool.{or-false}
use Rattle.std.specs.Prelude.{if◌then◌else◌}
use Rattle.std.specs.List.{flat_map, list_all, list_any}
use Rattle.std.proofs.lemmas.List.Folds.{list_any-append}
use Rattle.dns_data.specs.Name.{Labels}
use Rattle.dns_data.specs.RrType.{types}
use Rattle.dns_data.specs.declared.rr_type.RrType.{RrType}
use Rattle.dns_data.proofs.Membership.{none_in_nil, has_first, has_later, first_or_later, flat_map_has, from_flat_map}
use Rattle.dns_data.proofs.Searches.{each_of_all, from_any, any_has, any_none}
use Rattle.graph_form.specs.EndFaults.{is_overlong_end}
use Rattle.graph_form.specs.FirstPath.{answer_eq}
use Rattle.graph_form.specs.Graph.{HasBranch, PlainGraph, branches_of}
use Rattle.graph_form.specs.GraphOf.{IsExactIn, IsGraphOf}
use Rattle.graph_form.specs.declared.node.Branch.{Branch}
use Rattle.graph_form.specs.declared.node.Branch.TheVariants.{Go, End}
use Rattle.graph_form.specs.declared.node.Node.{Node}
use Rattle.graph_form.proofs.EqualAnswers.{same_answers, answer_itself}
use Rattle.graph_form.proofs.Places.{item_there, place_of_item}
use Rattle.graph_form.proofs.Reached.{every_type}
use Rattle.graph_form.proofs.ReachedNodes.{end_of_walk, walk_by}
use Rattle.net_model.specs.Shown.{is_authoritative}
use Rattle.net_model.specs.Step.{Setting}
use Rattle.net_model.specs.Tails.{is_overlong}
use Rattle.net_model.specs.Walk.{IsBoundedWith, IsWalk}
use Rattle.net_model.specs.declared.place.Place.{Place}
use Rattle.net_model.specs.declared.walk.Leaf.{Leaf}
use Rattle.net_model.specs.declared.walk.Leaf.TheVariants.{Overlong}
use Rattle.net_model.specs.declared.walk.Walk.{Walk}
use Rattle.walk_laws.specs.Outcome.{HasOutcome, outcome_of}
use Rattle.same_answers.specs.Ends.{branch_leaves, leaves_of, graph_overlong, is_bounded, node_leaves, node_overlong, outcome_eq, are_within}

-- what holds of each item holds of all
pub all_have : {X : Type 0} (test : X → Bool) (xs : List X) → ((x : X) → Contains xs x → test x ≡ true) → list_all test xs ≡ true
all_have test [] each = refl
all_have {X = X} test (x ∷ xs) each =
    rw (each x (has_first x xs)) (all_have test xs (λ y has. each y (has_later x xs y has)))

-- a leaf that is overlong has a place
pub place_of_overlong : (leaf : Leaf) → is_overlong leaf ≡ true → (place : Place) × (leaf ≡ Overlong place)
place_of_overlong (Overlong place) e = (place, refl)
place_of_overlong leaf e = cc

-- two ends have the same outcome exactly if they tell the same, or neither tells anything
pub one_outcome : (a b : Leaf) → (outcome_eq a b ≡ true) ↔ (outcome_of a ≡ outcome_of b)
one_outcome a b = by (is_authoritative a) (is_authoritative b) refl refl where
  by : (of_a of_b : Bool) → is_authoritative a ≡ of_a → is_authoritative b ≡ of_b
      → ((if of_a then answer_eq a b else not of_b) ≡ true) ↔ ((if of_a then Some a else None) ≡ (if of_b then Some b else None))
  by true true told also = (
    λ equal. ap (λ (leaf : Leaf). Some leaf) (same_answers a b equal),
    λ same. let one : a ≡ b = cc in subst (λ (leaf : Leaf). answer_eq a leaf ≡ true) one (answer_itself a told),
  )
  by true false told also = (
    λ equal. (let same : a ≡ b = same_answers a b equal in absurd (true≢false (sym told ∙ (ap is_authoritative same ∙ also)))),
    λ same. absurd cc,
  )
  by false true told also = (λ equal. absurd (true≢false (sym equal)), λ same. absurd cc)
  by false false told also = (λ equal. refl, λ same. refl)

-- a test of the items that each item gives, one after the other
any_given : {X Y : Type 0} (f : X → List Y) (test : Y → Bool) (of_all : X → Bool) → ((x : X) → of_all x ≡ list_any test (f x)) → (xs : List X)
    → list_any of_all xs ≡ list_any test (flat_map f xs)
any_given f test of_all agree [] = refl
any_given f test of_all agree (x ∷ xs) =
    ap (λ (b : Bool). b || list_any of_all xs) (agree x)
    ∙ (ap (λ (b : Bool). list_any test (f x) || b) (any_given f test of_all agree xs) ∙ sym (list_any-append test (f x) (flat_map f xs)))

branch_by_ends : (branch : Branch) → is_overlong_end branch ≡ list_any is_overlong (branch_leaves branch)
branch_by_ends (Go hop to) = refl
branch_by_ends (End hop leaf) = sym (or-false (is_overlong leaf))

-- the graph ends in a name that is too long exactly where one of its ends is one
overlong_by_ends : (graph : PlainGraph) (rtype : RrType) → graph_overlong graph rtype ≡ list_any is_overlong (leaves_of graph rtype)
overlong_by_ends graph rtype =
    any_given (node_leaves rtype) is_overlong (node_overlong rtype)
    (λ node. any_given branch_leaves is_overlong is_overlong_end branch_by_ends (branches_of node rtype)) graph.nodes

module _ (setting : Setting) (query : Labels) (graph : PlainGraph) (is : IsGraphOf setting query graph) (exact : IsExactIn setting query graph) (rtype : RrType) where
  -- each walk of the query ends in one of the graph's ends
  pub end_there : (walk : Walk) → IsWalk setting query rtype walk → Contains (leaves_of graph rtype) walk.leaf
  end_there walk is_walk =
      let end = end_of_walk graph rtype setting query is exact walk is_walk in
      subst (Contains (leaves_of graph rtype)) (sym end.leaf_is)
      (flat_map_has (node_leaves rtype) graph.nodes end.node end.leaf (item_there graph.nodes end.at end.node end.has.here)
      (flat_map_has branch_leaves (branches_of end.node rtype) (End end.hop end.leaf) end.leaf
      (item_there (branches_of end.node rtype) end.number (End end.hop end.leaf) end.has.there) (has_first end.leaf [])))

  -- each of the graph's ends is that of a walk of the query
  pub end_from : (leaf : Leaf) → Contains (leaves_of graph rtype) leaf → (walk : Walk) × IsWalk setting query rtype walk × (walk.leaf ≡ leaf)
  end_from leaf has =
      let (node, among, in_node) = from_flat_map (node_leaves rtype) graph.nodes leaf has in
      let (branch, of_node, in_branch) = from_flat_map branch_leaves (branches_of node rtype) leaf in_node in
      by node among branch of_node in_branch
    where
      by : (node : Node) → Contains graph.nodes node → (branch : Branch) → Contains (branches_of node rtype) branch → Contains (branch_leaves branch) leaf
          → (walk : Walk) × IsWalk setting query rtype walk × (walk.leaf ≡ leaf)
      by node among (Go hop to) of_node none = absurd (none_in_nil leaf none)
      by node among (End hop last) of_node in_branch =
          let (at, here) = place_of_item graph.nodes node among in
          let (number, there) = place_of_item (branches_of node rtype) (End hop last) of_node in
          let has : HasBranch graph rtype at number node (End hop last) = record { here = here; there = there } in
          let ends = walk_by graph rtype setting query is exact at number node hop last has in
          let same : last ≡ leaf = elim (first_or_later last [] leaf in_branch) [ inl equal ↦ equal | inr none ↦ absurd (none_in_nil leaf none) ] in
          (ends.walk, ends.is_walk, ends.leaf_is ∙ same)

  -- with the type the query is bounded exactly if the graph doesn't end in a name that is too long
  pub bounded_with : (graph_overlong graph rtype ≡ false) ↔ IsBoundedWith setting query rtype
  bounded_with = (
    λ none walk place is_walk e.
        true≢false (sym (any_has is_overlong (leaves_of graph rtype) walk.leaf (end_there walk is_walk) (ap is_overlong e)) ∙ (sym (overlong_by_ends graph rtype) ∙ none)),
    λ bounded.
        overlong_by_ends graph rtype ∙ any_none is_overlong (leaves_of graph rtype) (λ leaf has. never leaf has (is_overlong leaf) refl bounded),
  ) where
    never : (leaf : Leaf) → Contains (leaves_of graph rtype) leaf → (b : Bool) → is_overlong leaf ≡ b → IsBoundedWith setting query rtype → is_overlong leaf ≡ false
    never leaf has false e bounded = e
    never leaf has true e bounded =
        let (walk, is_walk, leaf_is) = end_from leaf has in
        let (place, overlong) = place_of_overlong leaf e in
        absurd (bounded walk place is_walk (leaf_is ∙ overlong))

  -- the outcomes of the query with the type are those of the graph's ends
  pub outcome_there : (outcome : Option Leaf) → HasOutcome setting query rtype outcome ↔ ((leaf : Leaf) × Contains (leaves_of graph rtype) leaf × (outcome_of leaf ≡ outcome))
  outcome_there outcome = (
    λ (walk, is_walk, told). (walk.leaf, end_there walk is_walk, told),
    λ (leaf, has, told). (let (walk, is_walk, leaf_is) = end_from leaf has in (walk, is_walk, ap outcome_of leaf_is ∙ told)),
  )

-- a graph is bounded exactly where the query is with each type
pub bounded_by_ends : (setting : Setting) (query : Labels) (graph : PlainGraph) → IsGraphOf setting query graph → IsExactIn setting query graph
    → (is_bounded graph ≡ true) ↔ ((rtype : RrType) → IsBoundedWith setting query rtype)
bounded_by_ends setting query graph is exact = (
  λ all rtype.
      (bounded_with setting query graph is exact rtype).0
      (negated (graph_overlong graph rtype) (each_of_all (λ rtype. not (graph_overlong graph rtype)) types all rtype (every_type rtype))),
  λ bounded.
      all_have (λ rtype. not (graph_overlong graph rtype)) types
      (λ rtype has. ap not ((bounded_with setting query graph is exact rtype).1 (bounded rtype))),
) where
  negated : (b : Bool) → not b ≡ true → b ≡ false
  negated true e = absurd (true≢false (sym e))
  negated false e = refl

-- the test of outcomes passes exactly if the others have each outcome that the ends have
pub within_by_ends : (some others : List Leaf)
    → (are_within some others ≡ true) ↔ ((leaf : Leaf) → Contains some leaf → (other : Leaf) × Contains others other × (outcome_of other ≡ outcome_of leaf))
within_by_ends some others = (
  λ all leaf has.
      let (other, there, equal) = from_any (outcome_eq leaf) others (each_of_all (λ leaf. list_any (outcome_eq leaf) others) some all leaf has) in
      (other, there, sym ((one_outcome leaf other).0 equal)),
  λ each. all_have (λ leaf. list_any (outcome_eq leaf) others) some
      (λ leaf has. let (other, there, same) = each leaf has in any_has (outcome_eq leaf) others other there ((one_outcome leaf other).1 (sym same))),
)
