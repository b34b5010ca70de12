-- Words in which worked values are written. Names have the top label first.
use Rattle.std.specs.Prelude.{ℕ, List, [], ◌∷◌, Option, option_map}
use Rattle.dns_data.specs.Name.{Labels}
use Rattle.dns_data.specs.declared.rdata.Rdata.{Rdata}
use Rattle.dns_data.specs.declared.rdata.Rr.{Rr}
use Rattle.net_model.specs.declared.config.Config.{Config}
use Rattle.net_model.specs.declared.config.Server.{Server}
use Rattle.net_model.specs.declared.config.Zone.{Zone}
use Rattle.net_model.specs.declared.place.Cut.{Cut}
use Rattle.net_model.specs.declared.place.Place.{Place}
use Rattle.net_model.specs.declared.walk.Leaf.{Leaf}
use Rattle.net_model.specs.declared.walk.Walk.{Walk}
use Rattle.net_model.specs.Nearest.{server_names}
use Rattle.net_model.specs.Step.{Setting, following}

-- a record of a zone; nothing is told by its TTL or by where it was read
abbrev pub rr : Labels → Rdata → Rr
rr owner rdata = record { owner = owner; ttl = 60; rdata = rdata; file = 0; line = 0 }

-- a zone with this origin and these records
abbrev pub zone_at : Labels → List Rr → Zone
zone_at origin rrs = record { origin = origin; rrs = rrs }

-- a server of this name with these zones
abbrev pub server_at : Labels → List Zone → Server
server_at name zones = record { name = name; zones = zones }

-- a configuration with these top servers and these servers
abbrev pub with_tops : List Labels → List Server → Config
with_tops tops servers = record { tops = tops; servers = servers }

-- the place of a rewrite
abbrev pub place_at : Labels → Labels → Labels → Place
place_at server zone owner = record { server = server; zone = zone; owner = owner }

-- one name server of a delegation
abbrev pub cut_at : Labels → Labels → Labels → Labels → Cut
cut_at server zone cut ns = record { server = server; zone = zone; cut = cut; ns = ns }

-- walks of so many rewrites at most while every configured server is followed
abbrev pub following_all : Config → ℕ → Setting
following_all config rewrites = following config rewrites (server_names config)

-- one server, a top one, with one zone
abbrev pub alone : Labels → Zone → Config
alone server zone = with_tops (server ∷ []) (server_at server (zone ∷ []) ∷ [])

-- the end of a walk, if there is one
abbrev pub end_of : Option Walk → Option Leaf
end_of walk = option_map (λ walk. walk.leaf) walk
