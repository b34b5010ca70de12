-- Words for worked values.
use Rattle.std.specs.Prelude.{ℕ, List, [], ◌∷◌, codes, None, Result}
use Rattle.dns_data.specs.Name.{Labels}
use Rattle.dns_data.specs.declared.rdata.Rdata.{Rdata}
use Rattle.dns_data.specs.declared.rdata.Rdata.TheVariants.{A, Ns, Cname, Soa, Dname}
use Rattle.dns_data.specs.declared.rdata.Rr.{Rr}
use Rattle.net_model.specs.declared.config.Zone.{Zone}
use Rattle.zone_rules.specs.declared.fault.RuleFault.{RuleFault}
use Rattle.zone_rules.specs.ZoneOf.{zone_of}

-- t.
abbrev pub t : Labels
t = codes "t" ∷ []

-- u.
abbrev pub u : Labels
u = codes "u" ∷ []

-- a.t.
abbrev pub a : Labels
a = codes "t" ∷ codes "a" ∷ []

-- b.t.
abbrev pub b : Labels
b = codes "t" ∷ codes "b" ∷ []

-- a name below a.t.
abbrev pub x : Labels
x = codes "t" ∷ codes "a" ∷ codes "x" ∷ []

-- *.t.
abbrev pub star : Labels
star = codes "t" ∷ codes "*" ∷ []

-- a name below *.t.
abbrev pub under_star : Labels
under_star = codes "t" ∷ codes "*" ∷ codes "a" ∷ []

-- a record of the first file
abbrev pub rr : Labels → Rdata → ℕ → Rr
rr owner rdata line = record { owner = owner; ttl = 60; rdata = rdata; file = 0; line = line }

-- an SOA record with a serial number
abbrev pub soa : Labels → ℕ → ℕ → Rr
soa owner serial line = rr owner (Soa [] [] serial 2 3 4 5) line

-- an address record with the last octet of its address
abbrev pub address : Labels → ℕ → ℕ → Rr
address owner last line = rr owner (A (192 ∷ 0 ∷ 2 ∷ last ∷ [])) line

-- an NS record in this line
abbrev pub ns : Labels → Labels → ℕ → Rr
ns owner target line = rr owner (Ns target) line

-- a CNAME record in this line
abbrev pub cname : Labels → Labels → ℕ → Rr
cname owner target line = rr owner (Cname target) line

-- a DNAME record in this line
abbrev pub dname : Labels → Labels → ℕ → Rr
dname owner target line = rr owner (Dname target) line

-- the zone of the SOA record of t. in line 1 and more records
abbrev pub with_soa : List Rr → Result Zone RuleFault
with_soa rrs = zone_of None (soa t 1 1 ∷ rrs)

-- the zone t. of these records
abbrev pub zone_t : List Rr → Zone
zone_t rrs = record { origin = t; rrs = soa t 1 1 ∷ rrs }
