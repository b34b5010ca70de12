-- Words in which worked values are written, and a zone with two delegations. Names have the top label first.
use Rattle.std.specs.Prelude.{List, [], ◌∷◌, codes, Option, option_map}
use Rattle.dns_data.specs.Name.{Labels}
use Rattle.dns_data.specs.declared.rdata.Rdata.{Rdata}
use Rattle.dns_data.specs.declared.rdata.Rdata.TheVariants.{A, Ns, Cname, Dname}
use Rattle.dns_data.specs.declared.rdata.Rr.{Rr}
use Rattle.net_model.specs.declared.config.Config.{Config}
use Rattle.net_model.specs.declared.config.Server.{Server}
use Rattle.net_model.specs.declared.config.Zone.{Zone}
use Rattle.net_model.specs.declared.walk.Leaf.{Leaf}
use Rattle.net_model.specs.declared.walk.Walk.{Walk}

-- a record; nothing is told by its TTL or by where it was read
abbrev pub rr : Labels → Rdata → Rr
rr owner rdata = record { owner = owner; ttl = 60; rdata = rdata; file = 0; line = 0 }

-- an address
abbrev pub address : Rdata
address = A (10 ∷ 0 ∷ 0 ∷ 1 ∷ [])

-- a zone with this origin and these records
abbrev pub zone_at : Labels → List Rr → Zone
zone_at origin rrs = record { origin = origin; rrs = rrs }

-- a server of this name with these zones
abbrev pub server_at : Labels → List Zone → Server
server_at name zones = record { name = name; zones = zones }

-- a configuration with these top servers and these servers
abbrev pub with_tops : List Labels → List Server → Config
with_tops tops servers = record { tops = tops; servers = servers }

-- the end of a walk, if there is one
abbrev pub end_of : Option Walk → Option Leaf
end_of walk = option_map (λ walk. walk.leaf) walk

-- ---- names

-- a top server
abbrev pub s1 : Labels
s1 = codes "s1" ∷ []

-- the origin of its zone
abbrev pub t : Labels
t = codes "t" ∷ []

-- an alias
abbrev pub www : Labels
www = codes "t" ∷ codes "www" ∷ []

-- the owner of a DNAME record
abbrev pub from : Labels
from = codes "t" ∷ codes "from" ∷ []

-- the target of a DNAME record
abbrev pub goal : Labels
goal = codes "t" ∷ codes "goal" ∷ []

-- a name below the owner of a DNAME record
abbrev pub xx_from : Labels
xx_from = codes "t" ∷ codes "from" ∷ codes "xx" ∷ []

-- a name below the target of a DNAME record
abbrev pub xx_goal : Labels
xx_goal = codes "t" ∷ codes "goal" ∷ codes "xx" ∷ []

-- a zone cut
abbrev pub near : Labels
near = codes "t" ∷ codes "near" ∷ []

-- its name server
abbrev pub ns_near : Labels
ns_near = codes "t" ∷ codes "near" ∷ codes "ns" ∷ []

-- another zone cut
abbrev pub far : Labels
far = codes "t" ∷ codes "far" ∷ []

-- its name server
abbrev pub ns_far : Labels
ns_far = codes "t" ∷ codes "far" ∷ codes "ns" ∷ []

-- an unnamed name
abbrev pub z_t : Labels
z_t = codes "t" ∷ codes "z" ∷ []

-- ---- configurations

-- the top server alone, with a zone of these records
abbrev pub alone : List Rr → Config
alone rrs = with_tops (s1 ∷ []) (server_at s1 (zone_at t rrs ∷ []) ∷ [])

-- a zone with two delegations, an alias and a redirection
abbrev pub two_delegations : Config
two_delegations =
    with_tops (s1 ∷ [])
    (server_at s1 (zone_at t
    (rr near (Ns ns_near) ∷ rr ns_near address ∷ rr far (Ns ns_far) ∷ rr ns_far address
    ∷ rr www (Cname xx_from) ∷ rr from (Dname goal) ∷ rr xx_goal address ∷ []) ∷ [])
    ∷ server_at ns_near (zone_at near (rr near (Ns ns_near) ∷ rr ns_near address ∷ []) ∷ [])
    ∷ server_at ns_far (zone_at far (rr far (Ns ns_far) ∷ rr ns_far address ∷ []) ∷ [])
    ∷ [])
