-- What the names of a zone own, and which names exist in it (RFC 1034 section 4.2, RFC 4592 section 2.2.2).
use Rattle.std.specs.Prelude.{Bool, ◌&&◌, ◌||◌, List, ◌++◌, map, Option, Some, None}
use Rattle.std.specs.List.{filter, filter_map, list_any}
use Rattle.std.specs.Cmp.Lexicographic.{slice_cmp}
use Rattle.std.specs.Ordering.{nat_cmp}
use Rattle.std.specs.declared.cmp.Ordering.{Ordering}
use Rattle.dns_data.specs.Name.{Labels, name_eq, name_cmp, is_prefix}
use Rattle.dns_data.specs.Rdata.{has_type}
use Rattle.dns_data.specs.DataText.{data_text}
use Rattle.dns_data.specs.declared.rdata.Rdata.{Rdata}
use Rattle.dns_data.specs.declared.rdata.Rdata.TheVariants.{Ns, Cname, Dname}
use Rattle.dns_data.specs.declared.rdata.Rr.{Rr}
use Rattle.dns_data.specs.declared.rr_type.RrType.{RrType}
use Rattle.dns_data.specs.declared.rr_type.RrType.TheVariants as types
use Rattle.net_model.specs.declared.config.Zone.{Zone}
use Rattle.net_model.specs.Order.{in_order}

-- the record is of this owner and type
abbrev pub is_of : Labels → RrType → Rr → Bool
is_of owner rtype rr = name_eq rr.owner owner && has_type rtype rr.rdata

-- the name owns a record of the type
abbrev pub owns : Zone → Labels → RrType → Bool
owns zone name rtype = list_any (is_of name rtype) zone.rrs

-- the data of the type that the name owns, in file order
abbrev pub data_at : Zone → Labels → RrType → List Rdata
data_at zone name rtype = map (λ rr. rr.rdata) (filter (is_of name rtype) zone.rrs)

-- The name is the origin; or it is at or below the origin, and some owner is at or below it. So an empty
-- non-terminal exists (RFC 4592 section 2.2.2).
abbrev pub exists_in : Zone → Labels → Bool
exists_in zone name =
    name_eq name zone.origin || (is_prefix zone.origin name && list_any (λ rr. is_prefix name rr.owner) zone.rrs)

-- the name that a name server's, an alias's or a redirection's data hold
abbrev pub target_of : Rdata → Option Labels
target_of (Ns target) = Some target
target_of (Cname target) = Some target
target_of (Dname target) = Some target
target_of rdata = None

-- the targets of the name's records of the type, in file order
abbrev pub targets_at : Zone → Labels → RrType → List Labels
targets_at zone name rtype = filter_map target_of (data_at zone name rtype)

-- the names of the name servers of a name, in the order of names
abbrev pub ns_names : Zone → Labels → List Labels
ns_names zone name = in_order name_cmp (targets_at zone name types.Ns)

-- the order of the data of one type: by the octets of their texts
abbrev pub data_cmp : Rdata → Rdata → Ordering
data_cmp a b = slice_cmp nat_cmp (data_text a) (data_text b)

-- the name owns an address record
abbrev pub has_address : Zone → Labels → Bool
has_address zone name = owns zone name types.A || owns zone name types.Aaaa

-- the addresses that the name owns, of both types
abbrev pub addresses : Zone → Labels → List Rdata
addresses zone name = in_order data_cmp (data_at zone name types.A ++ data_at zone name types.Aaaa)
