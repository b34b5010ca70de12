-- A query whose walks go straight reaches few pairs of state and type.
use Rattle.std.proofs.Common.{ℕ, suc, ◌+◌, ◌*◌, ◌≡◌, ◌≤◌, List, [], ◌∷◌, map, length, length-append, arith}
use Rattle.std.specs.Prelude.{Contains}
use Rattle.std.specs.List.{flat_map}
use Rattle.std.proofs.Math.Nat.{suc-mul}
use Rattle.std.proofs.lemmas.List.{length-map}
use Rattle.dns_data.specs.Name.{Labels}
use Rattle.dns_data.specs.RrType.{types}
use Rattle.dns_data.specs.declared.rr_type.RrType.{RrType}
use Rattle.dns_data.proofs.Membership.{each_along, flat_map_has, map_has}
use Rattle.net_model.specs.declared.deps.Deps.{Deps}
use Rattle.graph_form.proofs.Reached.{every_type}
use Rattle.net_model.specs.Nearest.{server_names}
use Rattle.net_model.specs.Step.{following}
use Rattle.net_model.specs.Tree.{HasMoreThan, IsReached}
use Rattle.net_model.specs.declared.config.Config.{Config}
use Rattle.net_model.specs.declared.walk.State.{State}
use Rattle.net_model.proofs.Counting.{no_more_than}
use Rattle.straight_walks.specs.Straight.{GoesStraight}
use Rattle.straight_walks.specs.declared.ends.StraightEnds.{StraightEnds}
use Rattle.straight_walks.proofs.StraightWalks.{goes_by}

module _ (states_with : RrType → List State) where
  -- the states with a type
  abbrev pairs_with : RrType → List (State × RrType)
  pairs_with rtype = map (λ (state : State). (state, rtype)) (states_with rtype)

  -- so there are few pairs
  few_pairs : (most : ℕ) → ((rtype : RrType) → length (states_with rtype) ≤ most) → (some : List RrType) → length (flat_map pairs_with some) ≤ length some * most
  few_pairs most few [] = omega arith
  few_pairs most few (rtype ∷ rest) =
      let here : length (states_with rtype) ≤ most = few rtype in
      let later : length (flat_map pairs_with rest) ≤ length rest * most = few_pairs most few rest in
      let product : suc (length rest) * most ≡ length rest * most + most = suc-mul (length rest) most in
      let as_many : length (pairs_with rtype) ≡ length (states_with rtype) = length-map (states_with rtype) (λ (state : State). (state, rtype)) in
      omega (arith, length-append (pairs_with rtype) (flat_map pairs_with rest))

-- no more pairs are reached than so many states, with each type
pub few_states : (config : Config) (rewrites : ℕ) (deps : Deps) (most : ℕ) (query : Labels) (ends : StraightEnds)
    → ((rtype : RrType) → GoesStraight (following config rewrites (server_names config)) deps most query ends rtype)
    → (limit : ℕ) → most * 12 ≤ limit → HasMoreThan (IsReached config rewrites query) limit → ⊥
few_states config rewrites deps most query ends straight limit fits more =
    let few : length (flat_map (pairs_with states_with) types) ≤ 12 * most = few_pairs states_with most (λ rtype. (straight rtype).few) types in
    no_more_than (IsReached config rewrites query) limit (flat_map (pairs_with states_with) types) (omega arith) reached more
  where
    states_with : RrType → List State
    states_with rtype = (straight rtype).states

    reached : (pair : State × RrType) → IsReached config rewrites query pair → Contains (flat_map (pairs_with states_with) types) pair
    reached pair is =
        let so = goes_by (following config rewrites (server_names config)) deps most query ends pair.1 (straight pair.1) is.walk is.is_walk in
        flat_map_has (pairs_with states_with) types pair.1 pair (every_type pair.1)
        (map_has (λ (state : State). (state, pair.1)) (states_with pair.1) pair.0 (each_along (Contains (states_with pair.1)) is.walk.states so.among pair.0 is.stands))
