-- The steps of walks.
use Rattle.std.proofs.Common.{◌≡◌, ◌≢◌, suc, ◌+◌, ◌-◌, List, [], ◌∷◌, ◌++◌, length, min, slice_get, refl, ap, subst, ◌∙◌, Some, arith}
use Rattle.net_model.specs.declared.walk.Hop.{Hop}
use Rattle.net_model.specs.declared.walk.Leaf.{Leaf}
use Rattle.net_model.specs.declared.walk.State.{State}
use Rattle.serde_json.specs.Data.{Data}
use Rattle.report_json.specs.Walks.{hop_values, leaf_value, end_values}

-- without hops there is no step but the last
pub no_hops : (states : List State) (hops : List Hop) → hops ≡ [] → hop_values states hops ≡ []
no_hops [] hops none = refl
no_hops (state ∷ states) [] none = refl
no_hops (state ∷ states) (hop ∷ hops) none = absurd cc

-- a walk ends in its last state
pub ends_in : (leaf : Leaf) (states : List State) (state : State) → slice_get states (length states - 1) ≡ Some state
    → end_values leaf states ≡ leaf_value state leaf ∷ []
ends_in leaf [] state last = absurd cc
ends_in leaf (one ∷ []) state last =
    let same : one ≡ state = cc in
    ap (λ s. leaf_value s leaf ∷ []) same
ends_in leaf (one ∷ next ∷ states) state last =
    ends_in leaf (next ∷ states) state (
    let here : suc (suc (length states)) - 1 ≡ suc (length states) = omega arith in
    let there : suc (length states) - 1 ≡ length states = omega arith in
    ap (slice_get (next ∷ states)) there ∙ subst (λ n. slice_get (one ∷ next ∷ states) n ≡ Some state) here last)

-- where there is a state, there is one last step
one_end : (leaf : Leaf) (state : State) (states : List State) → length (end_values leaf (state ∷ states)) ≡ 1
one_end leaf state [] = refl
one_end leaf state (next ∷ states) = one_end leaf next states

-- as many steps as states and hops side by side, and those behind
side_by_side : (states : List State) (hops : List Hop) (more : List Data)
    → length (hop_values states hops ++ more) ≡ min (length states) (length hops) + length more
side_by_side [] hops more = omega arith
side_by_side (state ∷ states) [] more = omega arith
side_by_side (state ∷ states) (hop ∷ hops) more =
    let rest = side_by_side states hops more in
    omega (arith, rest)

-- a walk has a step for each state with a hop, and one last step
pub steps_count : (leaf : Leaf) (states : List State) (hops : List Hop) → states ≢ []
    → length (hop_values states hops ++ end_values leaf states) ≡ min (length states) (length hops) + 1
steps_count leaf [] hops some = absurd (some refl)
steps_count leaf (state ∷ states) hops some =
    side_by_side (state ∷ states) hops (end_values leaf (state ∷ states))
    ∙ ap (λ n. min (length (state ∷ states)) (length hops) + n) (one_end leaf state states)
