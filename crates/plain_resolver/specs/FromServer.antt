-- The walks of a name that one server is asked for, as those of a query are from the top servers.
use Rattle.std.specs.Prelude.{◌≡◌, ◌↔◌, ℕ, true, List, map, Option, Some, None, IsSome, Contains, AllPairs}
use Rattle.std.specs.declared.cmp.Ordering.TheVariants.{Less}
use Rattle.dns_data.specs.Name.{Labels}
use Rattle.dns_data.specs.declared.rr_type.RrType.{RrType}
use Rattle.net_model.specs.declared.walk.State.{State}
use Rattle.net_model.specs.declared.walk.Walk.{Walk}
use Rattle.net_model.specs.Step.{Setting, arrived}
use Rattle.net_model.specs.Tree.{HasMoreThan}
use Rattle.net_model.specs.Walk.{AreWalks, path_cmp, walk_from}
use Rattle.plain_resolver.specs.Passed.{HasMoreWalks}

-- the state in which a server is asked for a name, with no rewrite used
abbrev pub asked_at : Setting → Labels → Labels → State
asked_at setting server name = arrived setting.config name true 0 None server

-- the lists of numbers are those of all walks from the state with the type, in order
pub record ArePathsFrom (setting : Setting) (state : State) (rtype : RrType) (paths : List (List ℕ)) : Type 0 where
  pub ordered : AllPairs (λ a b. path_cmp a b ≡ Less) paths
  pub all : (numbers : List ℕ) → Contains paths numbers ↔ IsSome (walk_from setting rtype numbers state)

-- the walks are all those from the state with the type, in order
abbrev pub AreWalksFrom : Setting → State → RrType → List Walk → Type 0
AreWalksFrom setting state rtype walks =
    (paths : List (List ℕ)) × ArePathsFrom setting state rtype paths
    × (map (λ numbers. walk_from setting rtype numbers state) paths ≡ map Some walks)

-- there are more walks from the state than so many, each known by its numbers
abbrev pub HasMoreWalksFrom : Setting → State → RrType → ℕ → Type 0
HasMoreWalksFrom setting state rtype most = HasMoreThan (λ numbers. IsSome (walk_from setting rtype numbers state)) most

-- the walks are all those of the query, from the server that is asked or from the top servers, in order
abbrev pub AreAsked : Setting → Labels → RrType → Option Labels → List Walk → Type 0
AreAsked setting query rtype None walks = AreWalks setting query rtype walks
AreAsked setting query rtype (Some server) walks = AreWalksFrom setting (asked_at setting server query) rtype walks

-- there are more of them than so many
abbrev pub HasMoreAsked : Setting → Labels → RrType → Option Labels → ℕ → Type 0
HasMoreAsked setting query rtype None most = HasMoreWalks setting query rtype most
HasMoreAsked setting query rtype (Some server) most = HasMoreWalksFrom setting (asked_at setting server query) rtype most
