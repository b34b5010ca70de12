-- The zone cuts of a zone that a query meets, and the NS records there and at the origin.
use Rattle.std.specs.Prelude.{Bool, true, false, ◌&&◌, ◌||◌, List, map, Option, Some, None, if◌then◌else◌}
use Rattle.std.specs.List.{filter, find}
use Rattle.dns_data.specs.Name.{Labels, is_prefix, name_cmp, name_eq}
use Rattle.dns_data.specs.Rdata.{data_eq}
use Rattle.dns_data.specs.declared.rdata.Rdata.{Rdata}
use Rattle.dns_data.specs.declared.rdata.Rdata.TheVariants.{Ns}
use Rattle.dns_data.specs.declared.rdata.Rr.{Rr}
use Rattle.net_model.specs.declared.config.Zone.{Zone}
use Rattle.net_model.specs.Lookup.{Deciding, ByCut, deciding}
use Rattle.net_model.specs.Order.{in_order}
use Rattle.net_model.specs.Zone.{has_address}

-- a zone cut decides, and it is this name
abbrev pub cuts_at : Labels → Deciding → Bool
cuts_at name (ByCut cut) = name_eq cut name
cuts_at name decides = false

-- a zone cut decides
abbrev pub refers : Deciding → Bool
refers (ByCut cut) = true
refers decides = false

-- The name is a zone cut that a query meets: the lookup of it is a referral at that very name. So none is a cut below
-- another cut, or below the owner of a DNAME record (RFC 1034 section 4.3.2, step 3b, RFC 6672 section 3.2).
abbrev pub is_cut : Zone → Labels → Bool
is_cut zone name = is_prefix zone.origin name && cuts_at name (deciding zone name)

-- the cuts of a zone, in the order of names
abbrev pub cuts : Zone → List Labels
cuts zone = filter (is_cut zone) (in_order name_cmp (map (λ rr. rr.owner) zone.rrs))

-- the NS records of the name are looked at: it is the origin or a cut
abbrev pub has_servers : Zone → Labels → Bool
has_servers zone name = name_eq name zone.origin || is_cut zone name

-- the name is below a cut or is one, and the zone holds an address of it (RFC 1034 section 4.2.1)
abbrev pub is_glued : Zone → Labels → Bool
is_glued zone name = is_prefix zone.origin name && refers (deciding zone name) && has_address zone name

-- the record is the NS record of the owner that names this name server
abbrev pub is_ns_of : Labels → Labels → Rr → Bool
is_ns_of owner ns rr = name_eq owner rr.owner && data_eq (Ns ns) rr.rdata

-- the NS record of the owner that names this name server
abbrev pub ns_record : Zone → Labels → Labels → Option Rr
ns_record zone owner ns = find (is_ns_of owner ns) zone.rrs

-- the name server that data name
abbrev pub ns_target : Rdata → Option Labels
ns_target (Ns target) = Some target
ns_target rdata = None

-- the name server that a record names, if it is an NS record of the origin or of a cut
abbrev pub server_named_by : Zone → Rr → Option Labels
server_named_by zone rr = if has_servers zone rr.owner then ns_target rr.rdata else None
