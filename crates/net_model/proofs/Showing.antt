-- How a query is seen to show a fault, or not to.
use Rattle.std.proofs.Common.{◌≡◌, ℕ, zero, suc, Bool, true, false, List, [], ◌∷◌, subst}
use Rattle.std.proofs.lemmas.Bool.{and_parts}
use Rattle.std.specs.Prelude.{Some, slice_get}
use Rattle.std.specs.List.{list_all}
use Rattle.dns_data.specs.Name.{Labels}
use Rattle.dns_data.specs.declared.rr_type.RrType.{RrType}
use Rattle.net_model.specs.declared.walk.Leaf.{Leaf}
use Rattle.net_model.specs.declared.walk.State.{State}
use Rattle.net_model.specs.declared.walk.Walk.{Walk}
use Rattle.net_model.specs.Step.{Setting, Branch, Go, End, start, next}
use Rattle.net_model.specs.Walk.{IsWalk}
use Rattle.net_model.proofs.WalkEnds.{LeadsSo, walk_ends}

-- the branch ends in a leaf that passes, or leads to a state that does
abbrev branch_passes : (Leaf → Bool) → (State → Bool) → Branch → Bool
branch_passes test passes (Go hop to) = passes to
branch_passes test passes (End hop leaf) = test leaf

-- each walk from the state has a leaf that passes, and not more than so many states
abbrev pub leaves_pass : (Leaf → Bool) → Setting → RrType → ℕ → State → Bool
leaves_pass test setting rtype zero state = false
leaves_pass test setting rtype (suc depth) state =
    list_all (branch_passes test (leaves_pass test setting rtype depth)) (next setting rtype state)

-- the item with a number passes what all pass
item_passes : {X : Type 0} (test : X → Bool) (xs : List X) (number : ℕ) (x : X) → list_all test xs ≡ true → slice_get xs number ≡ Some x
    → test x ≡ true
item_passes test [] number x all e = cc
item_passes test (first ∷ xs) zero x all e =
    let same : first ≡ x = cc in subst (λ y. test y ≡ true) same (and_parts (test first) (list_all test xs) all).0
item_passes test (first ∷ xs) (suc number) x all e = item_passes test xs number x (and_parts (test first) (list_all test xs) all).1 e

-- each walk of the query has a leaf that passes, and not more than so many states
abbrev pub all_leaves_pass : (Leaf → Bool) → Setting → Labels → RrType → ℕ → Bool
all_leaves_pass test setting query rtype depth = list_all (leaves_pass test setting rtype depth) (start setting.config query)

-- each walk from the state has such a leaf, and not more than some number of states
abbrev LeavesPass : (Leaf → Bool) → Setting → RrType → State → Type 0
LeavesPass test setting rtype state = (depth : ℕ) × (leaves_pass test setting rtype depth state ≡ true)

-- if the check of all walks of a query up to so many states succeeds, the leaf of each walk passes the test
pub walk_passes : (test : Leaf → Bool) (setting : Setting) (query : Labels) (rtype : RrType) (depth : ℕ)
    → all_leaves_pass test setting query rtype depth ≡ true → (walk : Walk) → IsWalk setting query rtype walk → test walk.leaf ≡ true
walk_passes test setting query rtype depth all walk (numbers, along) =
    walk_ends setting rtype (LeavesPass test setting rtype) (λ leaf. test leaf ≡ true) steps query
    (λ number state is. (depth, item_passes (leaves_pass test setting rtype depth) (start setting.config query) number state all is))
    numbers walk along
  where
    steps : (state : State) → LeavesPass test setting rtype state → (number : ℕ) (branch : Branch) → slice_get (next setting rtype state) number ≡ Some branch
        → LeadsSo (LeavesPass test setting rtype) (λ leaf. test leaf ≡ true) branch
    steps state (zero, pass) number branch is = cc
    steps state (suc depth, pass) number (Go hop to) is =
        (depth, item_passes (branch_passes test (leaves_pass test setting rtype depth)) (next setting rtype state) number (Go hop to) pass is)
    steps state (suc depth, pass) number (End hop leaf) is =
        item_passes (branch_passes test (leaves_pass test setting rtype depth)) (next setting rtype state) number (End hop leaf) pass is
