-- Walks of a query that has no other with the type: for the contracts of inner calls alone.
use Rattle.std.specs.Prelude.{◌≡◌, ℕ, List, ◌++◌, Some}
use Rattle.dns_data.specs.Name.{Labels}
use Rattle.dns_data.specs.declared.rr_type.RrType.{RrType}
use Rattle.net_model.specs.Learnt.{IsInForce}
use Rattle.net_model.specs.Step.{Setting, following}
use Rattle.net_model.specs.Walk.{walk_along, walk_from}
use Rattle.net_model.specs.declared.config.Config.{Config}
use Rattle.net_model.specs.declared.walk.Hop.{Hop}
use Rattle.net_model.specs.declared.walk.Leaf.{Leaf}
use Rattle.net_model.specs.declared.walk.State.{State}
use Rattle.net_model.specs.declared.walk.Walk.{Walk}

-- the walk is the only one from the state with the type
pub record IsOnlyFrom (setting : Setting) (rtype : RrType) (from : State) (walk : Walk) : Type 0 where
  pub numbers : List ℕ
  pub goes : walk_from setting rtype numbers from ≡ Some walk
  pub only : (others : List ℕ) (other : Walk) → walk_from setting rtype others from ≡ Some other → others ≡ numbers

-- the walk is the only one of the query with the type
pub record IsOnlyWalk (setting : Setting) (query : Labels) (rtype : RrType) (walk : Walk) : Type 0 where
  pub numbers : List ℕ
  pub goes : walk_along setting query rtype numbers ≡ Some walk
  pub only : (others : List ℕ) (other : Walk) → walk_along setting query rtype others ≡ Some other → others ≡ numbers

-- the states and the hops of the only walk from the state are put behind the others, and it ends so
pub record IsPutOnly (setting : Setting) (rtype : RrType) (from : State) (states : List State) (hops : List Hop) (all_states : List State) (all_hops : List Hop) (leaf : Leaf) : Type 0 where
  pub walk : Walk
  pub is_only : IsOnlyFrom setting rtype from walk
  pub puts_states : all_states ≡ states ++ walk.states
  pub puts_hops : all_hops ≡ hops ++ walk.hops
  pub ends : leaf ≡ walk.leaf

-- the walk is the only one of the query with the type while the servers of the set in force are followed
pub record IsOnlyOfLeast (config : Config) (rewrites : ℕ) (query : Labels) (rtype : RrType) (walk : Walk) : Type 0 where
  pub followed : List Labels
  pub in_force : IsInForce config rewrites followed
  pub is_only : IsOnlyWalk (following config rewrites followed) query rtype walk
