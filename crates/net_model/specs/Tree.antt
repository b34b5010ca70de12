-- The class tree of a configuration, the state pairs of a query, and what it is that there are more than so many.
use Rattle.std.specs.Prelude.{◌≡◌, ◌≢◌, ◌↔◌, ℕ, ◌<◌, true, List, length, Contains, AllPairs}
use Rattle.std.specs.List.{AllByRecursion}
use Rattle.std.specs.declared.cmp.Ordering.TheVariants.{Less}
use Rattle.dns_data.specs.Name.{Labels, IsName, is_prefix, name_cmp}
use Rattle.dns_data.specs.declared.rr_type.RrType.{RrType}
use Rattle.net_model.specs.declared.class.Class.TheVariants.{Below}
use Rattle.net_model.specs.declared.config.Config.{Config}
use Rattle.net_model.specs.declared.walk.State.{State}
use Rattle.net_model.specs.declared.walk.Walk.{Walk}
use Rattle.net_model.specs.Class.{IsRepresentative}
use Rattle.net_model.specs.Nearest.{server_names}
use Rattle.net_model.specs.Reading.{Ground, IsNamed}
use Rattle.net_model.specs.Step.{following}
use Rattle.net_model.specs.Walk.{IsWalk}

-- the class tree: the names that are named, in the order of names
pub record IsClassTree (ground : Ground) (names : List Labels) : Type 0 where
  pub ordered : AllPairs (λ a b. name_cmp a b ≡ Less) names
  pub all : (name : Labels) → Contains names name ↔ (IsNamed ground name × IsName name)

-- the name is in the class tree, at or below the other
pub record IsInPart (ground : Ground) (above name : Labels) : Type 0 where
  pub named : IsNamed ground name
  pub is_name : IsName name
  pub within : is_prefix above name ≡ true

-- the part of the class tree at or below a name: its names there, in the order of names
pub record IsTreePart (ground : Ground) (above : Labels) (part : List Labels) : Type 0 where
  pub ordered : AllPairs (λ a b. name_cmp a b ≡ Less) part
  pub all : (name : Labels) → Contains part name ↔ IsInPart ground above name

-- the names of the tree below which there is a class that isn't empty, in the order of names
pub record AreBelowClasses (ground : Ground) (names below : List Labels) : Type 0 where
  pub ordered : AllPairs (λ a b. name_cmp a b ≡ Less) below
  pub all : (above : Labels) → Contains below above ↔ (Contains names above × ((name : Labels) × IsRepresentative ground (Below above) name))

-- the pair is reached: the state stands on a walk of the query with the type, where all configured servers are followed
pub record IsReached (config : Config) (rewrites : ℕ) (query : Labels) (pair : State × RrType) : Type 0 where
  pub walk : Walk
  pub is_walk : IsWalk (following config rewrites (server_names config)) query pair.1 walk
  pub stands : Contains walk.states pair.0

-- the pairs of state and type that a query reaches, each once
pub record AreReached (config : Config) (rewrites : ℕ) (query : Labels) (pairs : List (State × RrType)) : Type 0 where
  pub once : AllPairs (λ a b. a ≢ b) pairs
  pub all : (pair : State × RrType) → Contains pairs pair ↔ IsReached config rewrites query pair

-- more different items than the limit have the property
pub record HasMoreThan {X : Type 0} (P : X → Type 0) (most : ℕ) : Type 0 where
  pub items : List X
  pub more : most < length items
  pub differ : AllPairs (λ a b. a ≢ b) items
  pub each : AllByRecursion P items
