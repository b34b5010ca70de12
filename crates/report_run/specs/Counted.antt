-- Names that are counted before any is judged, and where DNAME records may multiply them.
use Rattle.std.specs.Prelude.{◌≡◌, ◌⊎◌, ℕ, Bool, true, false}
use Rattle.std.specs.List.{list_any}
use Rattle.dns_data.specs.declared.rdata.Rdata.{Rdata}
use Rattle.dns_data.specs.declared.rdata.Rdata.TheVariants.{Dname}
use Rattle.dns_data.specs.declared.rdata.Rr.{Rr}
use Rattle.dns_data.specs.Name.{Labels}
use Rattle.net_model.specs.Tree.{HasMoreThan}
use Rattle.net_model.specs.declared.config.Config.{Config}
use Rattle.net_model.specs.declared.config.Server.{Server}
use Rattle.net_model.specs.declared.config.Zone.{Zone}
use Rattle.run_endings.specs.declared.ending.Ending.{Ending}
use Rattle.run_endings.specs.Endings.{no_memory, too_many_names}

-- a run ends since there are more of these names than the limit, or because memory ran out
abbrev pub EndsPast : (Labels → Type 0) → ℕ → Ending → Type 0
EndsPast IsOne limit ending = (HasMoreThan IsOne limit × (ending ≡ too_many_names limit)) ⊎ (ending ≡ no_memory)

-- the data are a redirection's
abbrev pub data_redirect : Rdata → Bool
data_redirect (Dname target) = true
data_redirect rdata = false

-- the record is a DNAME record
abbrev pub is_redirect : Rr → Bool
is_redirect rr = data_redirect rr.rdata

-- the zone has a DNAME record
abbrev pub zone_redirects : Zone → Bool
zone_redirects zone = list_any is_redirect zone.rrs

-- a zone of the server has a DNAME record
abbrev pub server_redirects : Server → Bool
server_redirects server = list_any zone_redirects server.zones

-- a zone of a server of the configuration has a DNAME record
abbrev pub config_redirects : Config → Bool
config_redirects config = list_any server_redirects config.servers
