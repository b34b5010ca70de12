-- For the code alone, no public clause cites it: records without their TTLs and places.
use Rattle.dns_data.specs.declared.rdata.Rr.{Rr}

-- the record without its TTL and its place, which aren't compared
abbrev pub plain : Rr → Rr
plain rr = record { owner = rr.owner; ttl = 0; rdata = rr.rdata; file = 0; line = 0 }
