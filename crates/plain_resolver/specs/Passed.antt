-- Where there are more walks than are allowed.
use Rattle.std.specs.Prelude.{◌≡◌, ◌⊎◌, ℕ, ◌<◌, List, ◌∷◌, ◌++◌, length, Contains, IsSome}
use Rattle.dns_data.specs.Name.{Labels}
use Rattle.dns_data.specs.declared.rr_type.RrType.{RrType}
use Rattle.dns_data.specs.declared.rr_type.RrType.TheVariants as types
use Rattle.net_model.specs.declared.config.Config.{Config}
use Rattle.net_model.specs.Learnt.{AfterRounds}
use Rattle.net_model.specs.Nearest.{server_names}
use Rattle.net_model.specs.Step.{Setting, following}
use Rattle.net_model.specs.Tree.{HasMoreThan}
use Rattle.net_model.specs.Walk.{walk_along}

-- the query has more walks than so many, each known by its numbers
abbrev pub HasMoreWalks : Setting → Labels → RrType → ℕ → Type 0
HasMoreWalks setting query rtype most = HasMoreThan (λ numbers. IsSome (walk_along setting query rtype numbers)) most

-- how many walks of one query are followed at most where no other limit is named: of a server's name with type A or with
-- type AAAA, to learn its address, as of any query
abbrev pub most_walks_followed : ℕ
most_walks_followed = 10000

-- a name has more walks of type A or of type AAAA than so many, while some servers are followed
abbrev pub HasTooMany : Config → ℕ → ℕ → List Labels → Labels → Type 0
HasTooMany config rewrites most followed name =
    HasMoreWalks (following config rewrites followed) name types.A most
    ⊎ HasMoreWalks (following config rewrites followed) name types.Aaaa most

-- no server's name has too many, while some servers are followed
abbrev pub NoneHasTooMany : Config → ℕ → ℕ → List Labels → Type 0
NoneHasTooMany config rewrites most followed =
    (name : Labels) → Contains (server_names config) name → HasTooMany config rewrites most followed name → ⊥

-- in no set from which one of the first rounds starts does a server's name have too many walks
abbrev pub NoneInRounds : Config → ℕ → ℕ → List Labels → ℕ → Type 0
NoneInRounds config rewrites most begin rounds =
    (before : ℕ) (followed : List Labels) → before < rounds → AfterRounds config rewrites before begin followed
    → NoneHasTooMany config rewrites most followed

-- the name is that of the first server that has too many, while some servers are followed
pub record IsFirstToPass (config : Config) (rewrites most : ℕ) (followed : List Labels) (name : Labels) : Type 0 where
  pub earlier : List Labels
  pub later : List Labels
  pub splits : server_names config ≡ earlier ++ name ∷ later
  pub none_has : (other : Labels) → Contains earlier other → HasTooMany config rewrites most followed other → ⊥
  pub has : HasTooMany config rewrites most followed name

-- the name is that of the first server that has too many walks in the first round in which one has
pub record IsFirstWithTooMany (config : Config) (rewrites most : ℕ) (begin : List Labels) (name : Labels) : Type 0 where
  pub before : ℕ
  pub is_round : before < length config.servers
  pub none_earlier : NoneInRounds config rewrites most begin before
  pub followed : List Labels
  pub after : AfterRounds config rewrites before begin followed
  pub first : IsFirstToPass config rewrites most followed name
