-- Identical records, of which a zone has one (RFC 2181 section 5): owner, type and data are equal. The TTL isn't
-- looked at, nor where the record stands.
use Rattle.std.specs.Prelude.{Bool, ◌&&◌}
use Rattle.dns_data.specs.Name.{name_eq}
use Rattle.dns_data.specs.Rdata.{data_eq}
use Rattle.dns_data.specs.declared.rdata.Rr.{Rr}

-- owner, type and data are equal
abbrev pub is_identical : Rr → Rr → Bool
is_identical a b = name_eq a.owner b.owner && data_eq a.rdata b.rdata
