-- A walk of a path, made state by state.
use Rattle.std.proofs.Common.{◌≡◌, ℕ, suc, ◌+◌, ◌<◌, ◌≤◌, List, [], ◌∷◌, ◌++◌, length, drop, get_or, drop-cons, refl, sym, ap, ◌∙◌, Some, None, arith, append_assoc}
use Rattle.std.proofs.Math.ListN.{drop_of_length-le}
use Rattle.std.specs.Prelude.{Option, option_map}
use Rattle.dns_data.specs.declared.rr_type.RrType.{RrType}
use Rattle.net_model.specs.Walk.{led_on}
use Rattle.net_model.specs.declared.walk.Hop.{Hop}
use Rattle.net_model.specs.declared.walk.State.{State}
use Rattle.net_model.specs.declared.walk.Walk.{Walk}
use Rattle.graph_form.specs.Graph.{HasBranch, PlainGraph, path_from}
use Rattle.graph_form.specs.declared.node.Branch.TheVariants.{Go}
use Rattle.graph_form.specs.declared.node.Node.{Node}
use Rattle.graph_form.proofs.TakenPaths.{path_by}

-- the walk behind states and hops
abbrev pub behind : List State → List Hop → Walk → Walk
behind states hops walk = record { states = states ++ walk.states; hops = hops ++ walk.hops; leaf = walk.leaf }

-- a walk behind no states and no hops is the walk alone
pub behind_nothing : (walk : Option Walk) → walk ≡ option_map (behind [] []) walk
behind_nothing None = refl
behind_nothing (Some walk) = refl

-- behind one more state and hop
behind_more : (states : List State) (hops : List Hop) (state : State) (hop : Hop) (walk : Option Walk)
    → option_map (behind states hops) (option_map (led_on state hop) walk) ≡ option_map (behind (states ++ state ∷ []) (hops ++ hop ∷ [])) walk
behind_more states hops state hop None = refl
behind_more states hops state hop (Some walk) =
    ap (λ (all : List State). Some (record { states = all; hops = hops ++ hop ∷ walk.hops; leaf = walk.leaf })) (sym (append_assoc states (state ∷ []) walk.states))
    ∙ ap (λ (all : List Hop). Some (record { states = (states ++ state ∷ []) ++ walk.states; hops = all; leaf = walk.leaf })) (sym (append_assoc hops (hop ∷ []) walk.hops))

-- the items from a place on
from_place : (numbers : List ℕ) (i number : ℕ) → i < length numbers → number ≡ get_or numbers i 0 → drop i numbers ≡ number ∷ drop (i + 1) numbers
from_place numbers i number less is =
    let next : suc i ≡ i + 1 = omega arith in
    drop-cons numbers i 0 less ∙ (ap (λ n. n ∷ drop (suc i) numbers) (sym is) ∙ ap (λ n. number ∷ drop n numbers) next)

none_from : (numbers : List ℕ) (i : ℕ) → length numbers ≤ i → drop i numbers ≡ []
none_from numbers i past = drop_of_length-le numbers past

module _ (graph : PlainGraph) (rtype : RrType) (whole : Option Walk) (states : List State) (hops : List Hop) (numbers : List ℕ) (i at : ℕ)
    (is : whole ≡ option_map (behind states hops) (path_from graph rtype (drop i numbers) at)) where
  module _ (number : ℕ) (less : i < length numbers) (is_number : number ≡ get_or numbers i 0) where
    by_first : whole ≡ option_map (behind states hops) (path_from graph rtype (number ∷ drop (i + 1) numbers) at)
    by_first = is ∙ ap (λ ns. option_map (behind states hops) (path_from graph rtype ns at)) (from_place numbers i number less is_number)

    -- if the branch with the next number goes on, the walk goes on by it
    pub led_more : (node : Node) (hop : Hop) (to : ℕ) → HasBranch graph rtype at number node (Go hop to)
        → whole ≡ option_map (behind (states ++ node.state ∷ []) (hops ++ hop ∷ [])) (path_from graph rtype (drop (i + 1) numbers) to)
    led_more node hop to has =
        by_first
        ∙ (ap (option_map (behind states hops)) (path_by graph rtype (drop (i + 1) numbers) at number node (Go hop to) has)
        ∙ behind_more states hops node.state hop (path_from graph rtype (drop (i + 1) numbers) to))
