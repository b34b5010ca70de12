-- A local query reaches the same pairs of state and type in the whole and in what is left.
use Rattle.std.proofs.Common.{ℕ, List, ap}
use Rattle.std.specs.Prelude.{◌↔◌}
use Rattle.dns_data.specs.Name.{Labels, is_among}
use Rattle.dns_data.specs.declared.rr_type.RrType.{RrType}
use Rattle.dns_data.proofs.Names.{all_so}
use Rattle.net_model.specs.declared.config.Config.{Config}
use Rattle.net_model.specs.declared.walk.State.{State}
use Rattle.net_model.specs.Nearest.{server_names}
use Rattle.net_model.specs.Tree.{IsReached, HasMoreThan}
use Rattle.part_laws.specs.Part.{restricted, IsLocal, IsPart, HaveSameLocalNames}
use Rattle.part_laws.proofs.QueriesAlike.{is_walk_alike}
use Rattle.part_laws.proofs.ZonesAlike.{names_alike}

module _ (config : Config) (names : List Labels) (part : IsPart config names) (rewrites : ℕ) (query : Labels) (local : IsLocal config names query) where
  -- what is left of the configuration
  abbrev left : Config
  left = restricted names config

  -- the lists of all configured servers are alike
  all_alike : HaveSameLocalNames config names (server_names left) (server_names config)
  all_alike = record { same = λ name at_local. ap (λ (l : List Labels). is_among l name) (names_alike config names) }

  -- the same pairs are reached
  reached_alike : (pair : State × RrType) → IsReached left rewrites query pair ↔ IsReached config rewrites query pair
  reached_alike pair = (
    λ is. record {
      walk = is.walk;
      is_walk = (is_walk_alike config names part rewrites (server_names config) (server_names left) all_alike query pair.1 is.walk local).0 is.is_walk;
      stands = is.stands;
    },
    λ is. record {
      walk = is.walk;
      is_walk = (is_walk_alike config names part rewrites (server_names config) (server_names left) all_alike query pair.1 is.walk local).1 is.is_walk;
      stands = is.stands;
    },
  )

  -- so more than so many in both or in neither
  pub more_alike : (most : ℕ) → HasMoreThan (IsReached left rewrites query) most ↔ HasMoreThan (IsReached config rewrites query) most
  more_alike most = (
    λ has. record {
      items = has.items;
      more = has.more;
      differ = has.differ;
      each = all_so (IsReached left rewrites query) (IsReached config rewrites query) has.items (λ pair is. (reached_alike pair).0 is) has.each;
    },
    λ has. record {
      items = has.items;
      more = has.more;
      differ = has.differ;
      each = all_so (IsReached config rewrites query) (IsReached left rewrites query) has.items (λ pair is. (reached_alike pair).1 is) has.each;
    },
  )
