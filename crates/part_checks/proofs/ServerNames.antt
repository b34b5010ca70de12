-- Names of servers.
use Rattle.std.proofs.Common.{◌≡◌, ◌∙◌, Bool, true, false, cond, List, [], ◌∷◌, map, find, Some, refl, ap}
use Rattle.std.specs.Cmp.Lexicographic.{lists_equiv, nat_list_eq_equiv}
use Rattle.std.specs.Prelude.{◌||◌, is_some}
use Rattle.dns_data.specs.Name.{Labels, is_among, name_eq}
use Rattle.net_model.specs.Nearest.{is_configured, server_names}
use Rattle.net_model.specs.declared.config.Config.{Config}
use Rattle.net_model.specs.declared.config.Server.{Server}

-- a name is that of a server exactly if it is among the names of the servers
pub configured_among : (config : Config) (name : Labels) → is_among (server_names config) name ≡ is_configured config name
configured_among config name = along config.servers where
  along : (servers : List Server) → is_among (map (λ (server : Server). server.name) servers) name ≡ is_some (find (λ (server : Server). name_eq server.name name) servers)
  along [] = refl
  along (server ∷ servers) =
      ap (λ (b : Bool). b || is_among (map (λ (s : Server). s.name) servers) name) ((lists_equiv nat_list_eq_equiv).symm name server.name)
      ∙ by (name_eq server.name name) (along servers)
    where
      by : (b : Bool) → is_among (map (λ (s : Server). s.name) servers) name ≡ is_some (find (λ (s : Server). name_eq s.name name) servers)
          → (b || is_among (map (λ (s : Server). s.name) servers) name) ≡ is_some (cond b (Some server) (find (λ (s : Server). name_eq s.name name) servers))
      by true rest = refl
      by false rest = rest
