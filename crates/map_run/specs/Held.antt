-- For the code alone, no public clause cites it: zones by their servers and origins.
use Rattle.std.specs.Prelude.{◌≡◌, List, option_and_then, option_map}
use Rattle.std.specs.HashMap as tables
use Rattle.std.specs.List.{find}
use Rattle.dns_data.specs.Name.{Labels, name_eq}
use Rattle.net_model.specs.declared.config.Server.{Server}
use Rattle.net_model.specs.declared.config.Zone.{Zone}
use Rattle.net_model.specs.Nearest.{zone_with_origin}
use denote.Bor.{Bor}

-- the table gives for an origin the first of the zones with it
abbrev pub FindsZones : {S : Type 0} → List Zone → tables.HashMap Labels (Bor Zone) S → Type 0
FindsZones zones found =
    (origin : Labels) → option_map (λ zone. zone.now) (tables.get name_eq found origin) ≡ find (λ zone. name_eq zone.origin origin) zones

-- the table gives for a name and an origin the zone with it of the first of the servers of that name
abbrev pub FindsHeld : {S R : Type 0} → List Server → tables.HashMap Labels (tables.HashMap Labels (Bor Zone) S) R → Type 0
FindsHeld servers found =
    (name origin : Labels)
    → option_map (λ zone. zone.now) (option_and_then (λ zones. tables.get name_eq zones origin) (tables.get name_eq found name))
    ≡ option_and_then (λ server. zone_with_origin server origin) (find (λ server. name_eq server.name name) servers)
