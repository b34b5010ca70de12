-- What each end of a step has, the end of each walk has.
use Rattle.std.proofs.Common.{◌≡◌, ℕ, zero, suc, ◌==◌, List, [], ◌∷◌, length, refl, subst, inl, inr}
use Rattle.std.specs.Prelude.{◌⊎◌, slice_get, Option, Some, None, option_and_then}
use Rattle.std.specs.List.{AllByRecursion}
use Rattle.dns_data.specs.Name.{Labels}
use Rattle.dns_data.specs.declared.rr_type.RrType.{RrType}
use Rattle.net_model.specs.declared.walk.Leaf.{Leaf}
use Rattle.net_model.specs.declared.walk.State.{State}
use Rattle.net_model.specs.declared.walk.Walk.{Walk}
use Rattle.net_model.specs.Step.{Setting, Branch, Go, End, next, start}
use Rattle.net_model.specs.Walk.{walk_from, walk_along}
use Rattle.net_model.proofs.Leads.{GoesOn, EndsBy, branch_taken}

-- what holds of all items of a list holds of each
pub item : {X : Type 0} (P : X → Type 0) (xs : List X) (number : ℕ) (x : X) → AllByRecursion P xs → slice_get xs number ≡ Some x → P x
item P [] number x all e = cc
item P (first ∷ xs) zero x all e = let same : first ≡ x = cc in subst P same all.0
item P (first ∷ xs) (suc number) x all e = item P xs number x all.1 e

-- the branch leads to a state of a kind, or ends in a leaf of a kind
abbrev pub LeadsSo : (State → Type 0) → (Leaf → Type 0) → Branch → Type 0
LeadsSo of_state of_leaf (Go hop to) = of_state to
LeadsSo of_state of_leaf (End hop leaf) = of_leaf leaf

module _ (setting : Setting) (rtype : RrType) (of_state : State → Type 0) (of_leaf : Leaf → Type 0)
    (steps : (state : State) → of_state state → (number : ℕ) (branch : Branch) → slice_get (next setting rtype state) number ≡ Some branch → LeadsSo of_state of_leaf branch) where
  -- if each branch of a state of a kind leads to such a state or ends in a leaf of a kind, each walk from such a state
  -- ends in such a leaf
  pub walk_from_ends : (numbers : List ℕ) (state : State) (walk : Walk) → of_state state → walk_from setting rtype numbers state ≡ Some walk → of_leaf walk.leaf
  walk_from_ends [] state walk is e = cc
  walk_from_ends (number ∷ numbers) state walk is e =
      by (branch_taken state (length numbers == 0) (walk_from setting rtype numbers) (slice_get (next setting rtype state) number) walk e)
      (λ to later so goes. walk_from_ends numbers to later so goes)
    where
      by : GoesOn state (walk_from setting rtype numbers) (slice_get (next setting rtype state) number) walk
          ⊎ EndsBy state (slice_get (next setting rtype state) number) walk
          → ((to : State) (later : Walk) → of_state to → walk_from setting rtype numbers to ≡ Some later → of_leaf later.leaf) → of_leaf walk.leaf
      by (inl goes) rest =
          subst (λ (w : Walk). of_leaf w.leaf) goes.made
          (rest goes.to goes.later (steps state is number (Go goes.hop goes.to) goes.is) goes.goes)
      by (inr ends) rest =
          subst (λ (w : Walk). of_leaf w.leaf) ends.made (steps state is number (End ends.hop ends.leaf) ends.is)

  -- a walk of a query that begins in states of the kind ends in a leaf of the kind
  pub walk_ends : (query : Labels) → ((number : ℕ) (state : State) → slice_get (start setting.config query) number ≡ Some state → of_state state)
      → (numbers : List ℕ) (walk : Walk) → walk_along setting query rtype numbers ≡ Some walk → of_leaf walk.leaf
  walk_ends query begins [] walk e = cc
  walk_ends query begins (number ∷ numbers) walk e = by (slice_get (start setting.config query) number) refl e where
    by : (begin : Option State) → slice_get (start setting.config query) number ≡ begin
        → option_and_then (walk_from setting rtype numbers) begin ≡ Some walk → of_leaf walk.leaf
    by None is e = cc
    by (Some state) is e = walk_from_ends numbers state walk (begins number state is) e
