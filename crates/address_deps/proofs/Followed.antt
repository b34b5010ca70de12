-- The configured servers by their names.
use Rattle.std.proofs.Common.{◌≡◌, Bool, true, Contains, Option, Some, None, Bor, refl, ap, ◌∙◌, subst}
use Rattle.std.specs.Prelude.{is_some, option_map}
use Rattle.std.specs.List.{find}
use Rattle.dns_data.specs.Name.{Labels, name_eq, is_among}
use Rattle.dns_data.proofs.Membership.{from_map, map_has}
use Rattle.dns_data.proofs.Names.{name_eq_decides}
use Rattle.dns_data.proofs.Searches.{find_some, found_there, same_truth}
use Rattle.net_model.specs.declared.config.Config.{Config}
use Rattle.net_model.specs.declared.config.Server.{Server}
use Rattle.net_model.specs.Nearest.{is_configured, server_named, server_names}
use Rattle.net_model.proofs.Naming.{from_listed, is_listed}

module _ (config : Config) (name : Labels) where
  abbrev named : Server → Bool
  named server = name_eq server.name name

  -- a server is configured exactly where its name is among those of the configured servers
  pub configured_among : is_configured config name ≡ is_among (server_names config) name
  configured_among = same_truth (is_configured config name) (is_among (server_names config) name) (λ some. there (find named config.servers) refl some) back where
    there : (found : Option Server) → find named config.servers ≡ found → is_some found ≡ true → is_among (server_names config) name ≡ true
    there None e some = cc
    there (Some server) e some =
        let has = found_there named config.servers server e in
        is_listed (server_names config) name
        (subst (Contains (server_names config)) ((name_eq_decides server.name name).0 has.1) (map_has (λ (s : Server). s.name) config.servers server has.0))

    back : is_among (server_names config) name ≡ true → is_configured config name ≡ true
    back among =
        let of = from_map (λ (s : Server). s.name) config.servers name (from_listed (server_names config) name among) in
        let found = find_some named config.servers of.0 of.1 ((name_eq_decides of.0.name name).1 of.2) in
        ap (λ (server : Option Server). is_some server) found.1

-- so it is where the server of this name is found
pub found_among : (config : Config) (name : Labels) (found : Option (Bor Server)) → option_map (λ (server : Bor Server). server.now) found ≡ server_named config name
    → is_some found ≡ is_among (server_names config) name
found_among config name found is = same found ∙ (ap (λ (server : Option Server). is_some server) is ∙ configured_among config name) where
  same : (some : Option (Bor Server)) → is_some some ≡ is_some (option_map (λ (server : Bor Server). server.now) some)
  same None = refl
  same (Some server) = refl
