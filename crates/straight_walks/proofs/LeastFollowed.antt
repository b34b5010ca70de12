-- Of the configured servers those of the least set are followed where they are, and where all are.
use Rattle.std.proofs.Common.{◌≡◌, ℕ, true, refl, sym}
use Rattle.std.specs.Prelude.{Option, Some, None, is_some}
use Rattle.std.specs.List.{list_any}
use Rattle.dns_data.specs.Name.{name_eq}
use Rattle.dns_data.proofs.Membership.{map_has}
use Rattle.dns_data.proofs.Names.{name_eq_decides}
use Rattle.dns_data.proofs.Searches.{any_has, found_there}
use Rattle.net_model.specs.declared.deps.Deps.{Deps}
use Rattle.net_model.specs.Nearest.{server_names, server_named}
use Rattle.net_model.specs.Step.{following}
use Rattle.net_model.specs.declared.config.Config.{Config}
use Rattle.net_model.specs.declared.config.Server.{Server}
use Rattle.straight_walks.specs.Straight.{FollowsLeast}

-- a setting that follows the servers of the least set follows the least set
pub least_followed : (config : Config) (rewrites : ℕ) (deps : Deps) → FollowsLeast (following config rewrites deps.least) deps
least_followed config rewrites deps name configured among = among

-- a setting that follows all configured servers follows the least set
pub all_followed : (config : Config) (rewrites : ℕ) (deps : Deps) → FollowsLeast (following config rewrites (server_names config)) deps
all_followed config rewrites deps name configured among = by (server_named config name) refl configured where
  by : (named : Option Server) → server_named config name ≡ named → is_some named ≡ true → list_any (name_eq name) (server_names config) ≡ true
  by None is some = cc
  by (Some server) is some =
      let found = found_there (λ (s : Server). name_eq s.name name) config.servers server is in
      any_has (name_eq name) (server_names config) server.name (map_has (λ (s : Server). s.name) config.servers server found.0)
      ((name_eq_decides name server.name).1 (sym ((name_eq_decides server.name name).0 found.1)))
