-- The live set of a name: the base names to which it reads on (RFC 6672 section 2.2).
use Rattle.std.specs.Prelude.{◌↔◌, ℕ, ◌<◌, List, [], ◌++◌, length, Contains, All}
use Rattle.dns_data.specs.Name.{Labels}
use Rattle.net_model.specs.Reading.{Redirection, Ground, ReadsOnTo}
pub use Rattle.name_table.specs.Table.{name_at}

-- the names have the root, and the prefixes of each of them
pub record HavePrefixes (names : List Labels) : Type 0 where
  pub root : Contains names []
  pub prefixes : (above below : Labels) → Contains names (above ++ below) → Contains names above

-- the ground has the root, the prefixes of its names, and the owners of its redirections
pub record IsClosed (ground : Ground) : Type 0 where
  pub names : HavePrefixes ground.names
  pub redirected : (redirection : Redirection) → Contains ground.redirections redirection → Contains ground.names redirection.owner

-- the places are those of the base names to which the name reads on
pub record IsLiveSet (ground : Ground) (name : Labels) (places : List ℕ) : Type 0 where
  pub within : All (λ place. place < length ground.names) places
  pub live : (place : ℕ) → place < length ground.names
      → Contains places place ↔ ReadsOnTo ground.redirections name (name_at ground.names place)
