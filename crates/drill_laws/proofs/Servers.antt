-- A zone is given to a server that has none so far.
use Rattle.std.proofs.Common.{◌≡◌, ℕ, Bool, false, ◌&&◌, List, [], ◌∷◌, ◌++◌, Ok, Err, if◌then◌else◌, refl, ap, ◌∙◌}
use Rattle.std.specs.List.{list_any, AllByRecursion}
use Rattle.dns_data.specs.Name.{Labels, name_eq}
use Rattle.dns_data.proofs.Names.{all_so}
use Rattle.net_model.specs.declared.config.Server.{Server}
use Rattle.net_model.specs.declared.config.Zone.{Zone}
use Rattle.config_load.specs.Servers.{has_zone, with_zone, given}
use Rattle.config_load.specs.declared.fault.LoadFault.TheVariants.{ZoneTwice}
use Rattle.drill_laws.proofs.Fitting.{none_of}

-- no server has the name
abbrev pub IsNewServer : Labels → List Server → Type 0
IsNewServer name servers = AllByRecursion (λ server. name_eq name server.name ≡ false) servers

-- a server of its own, with this zone
abbrev pub with_server : Labels → Zone → List Server → List Server
with_server name zone servers = servers ++ record { name = name; zones = zone ∷ [] } ∷ []

no_zone : (name origin : Labels) (servers : List Server) → IsNewServer name servers → has_zone name origin servers ≡ false
no_zone name origin servers new =
    none_of (λ server. name_eq name server.name && list_any (λ zone. name_eq origin zone.origin) server.zones) servers
    (all_so (λ server. name_eq name server.name ≡ false) (λ server. (name_eq name server.name && list_any (λ zone. name_eq origin zone.origin) server.zones) ≡ false) servers
    (λ server apart. ap (λ (b : Bool). b && list_any (λ zone. name_eq origin zone.origin) server.zones) apart) new)

behind_others : (name : Labels) (zone : Zone) (servers : List Server) → IsNewServer name servers → with_zone name zone servers ≡ with_server name zone servers
behind_others name zone [] new = refl
behind_others name zone (server ∷ servers) new =
    ap (λ (b : Bool). if b then record server { zones = server.zones ++ zone ∷ [] } ∷ servers else server ∷ with_zone name zone servers) new.0
    ∙ ap (λ (rest : List Server). server ∷ rest) (behind_others name zone servers new.1)

-- a zone that is given to a name without a server makes a server of its own, and isn't refused
pub given_new : (number : ℕ) (name : Labels) (zone : Zone) (servers : List Server) → IsNewServer name servers → given number name zone servers ≡ Ok (with_server name zone servers)
given_new number name zone servers new =
    ap (λ (b : Bool). if b then Err (ZoneTwice number) else Ok (with_zone name zone servers)) (no_zone name zone.origin servers new)
    ∙ ap (λ (all : List Server). Ok all) (behind_others name zone servers new)
