-- Numbers that equal owners, and identical records, share: for the contracts of the code's searches alone.
use Rattle.std.specs.Prelude.{ℕ, Bool, true}
use Rattle.std.specs.Hash.FoldHasher.{initial, write, finish}
use Rattle.std.specs.declared.hash.FoldHasher.{FoldHasher}
use Rattle.dns_data.specs.Encoding.{encoded}
use Rattle.dns_data.specs.Name.{Labels}
use Rattle.dns_data.specs.declared.rdata.Rdata.{Rdata}
use Rattle.dns_data.specs.declared.rdata.Rdata.TheVariants.{A, Ns, Cname, Soa, Ptr, Hinfo, Mx, Txt, Aaaa, Srv, Dname, Caa, Other}
use Rattle.dns_data.specs.declared.rdata.Rr.{Rr}
use Rattle.dns_data.specs.declared.rr_type.RrType.TheVariants as types
use Rattle.zone_rules.specs.Apex.{is_type}

-- a hasher that was fed the labels of a name, the top one first, each its length and its octets
abbrev pub fed_name : FoldHasher → Labels → FoldHasher
fed_name hasher name = write hasher (encoded name)

-- a hasher that was fed the address or the name that data give, if they give one
abbrev pub fed_data : FoldHasher → Rdata → FoldHasher
fed_data hasher (A address) = write hasher address
fed_data hasher (Ns name) = fed_name hasher name
fed_data hasher (Cname name) = fed_name hasher name
fed_data hasher (Soa mname rname serial refresh retry expire minimum) = hasher
fed_data hasher (Ptr name) = fed_name hasher name
fed_data hasher (Hinfo cpu os) = hasher
fed_data hasher (Mx preference exchange) = fed_name hasher exchange
fed_data hasher (Txt texts) = hasher
fed_data hasher (Aaaa address) = write hasher address
fed_data hasher (Srv priority weight port target) = fed_name hasher target
fed_data hasher (Dname name) = fed_name hasher name
fed_data hasher (Caa flags tag value) = hasher
fed_data hasher (Other word tokens) = hasher

-- the number of an owner
abbrev pub owner_number : Labels → ℕ
owner_number owner = finish (fed_name initial owner)

-- the number of a record
abbrev pub record_number : Rr → ℕ
record_number rr = finish (fed_data (fed_name initial rr.owner) rr.rdata)

-- a record's number, and that it has to stand alone
abbrev pub record_key : Rr → ℕ × Bool
record_key rr = (record_number rr, true)

-- the number of a record's owner, and whether the record has to stand alone there, as a CNAME record has
abbrev pub owner_key : Rr → ℕ × Bool
owner_key rr = (owner_number rr.owner, is_type types.Cname rr)
