-- The records whose targets a zone gives.
use Rattle.std.proofs.Common.{◌≡◌, true, List, [], ◌∷◌, Contains, filter, Some, ap, subst, ◌∙◌}
use Rattle.std.proofs.lemmas.Bool.{and_parts}
use Rattle.dns_data.specs.Name.{Labels, name_eq, name_cmp}
use Rattle.dns_data.specs.Rdata.{has_type}
use Rattle.dns_data.specs.declared.rdata.Rdata.{Rdata}
use Rattle.dns_data.specs.declared.rdata.Rdata.TheVariants.{Ns, Cname, Dname}
use Rattle.dns_data.specs.declared.rdata.Rr.{Rr}
use Rattle.dns_data.specs.declared.rr_type.RrType.{RrType}
use Rattle.dns_data.specs.declared.rr_type.RrType.TheVariants as types
use Rattle.dns_data.proofs.Membership.{has_first, from_filter, from_map}
use Rattle.dns_data.proofs.Names.{name_eq_decides}
use Rattle.dns_data.proofs.Searches.{from_filter_map}
use Rattle.net_model.specs.declared.config.Zone.{Zone}
use Rattle.net_model.specs.Lookup.{first_name}
use Rattle.net_model.specs.Zone.{is_of, data_at, target_of, targets_at, ns_names}
use Rattle.net_model.proofs.ItemsInOrder.{from_order}

-- the zone has a record of the owner and type with this target
pub record HasTarget (zone : Zone) (owner : Labels) (rtype : RrType) (target : Labels) : Type 0 where
  pub rr : Rr
  pub of_zone : Contains zone.rrs rr
  pub owner_is : rr.owner ≡ owner
  pub of_type : has_type rtype rr.rdata ≡ true
  pub has_it : target_of rr.rdata ≡ Some target

-- each target of an owner's records of a type is that of such a record
pub from_targets : (zone : Zone) (owner : Labels) (rtype : RrType) (target : Labels) → Contains (targets_at zone owner rtype) target
    → HasTarget zone owner rtype target
from_targets zone owner rtype target has =
    let (rdata, among, gives) = from_filter_map target_of (data_at zone owner rtype) target has in
    let (rr, among_left, same) = from_map (λ (r : Rr). r.rdata) (filter (is_of owner rtype) zone.rrs) rdata among in
    let there = from_filter (is_of owner rtype) zone.rrs rr among_left in
    let parts = and_parts (name_eq rr.owner owner) (has_type rtype rr.rdata) there.1 in
    record {
      rr = rr;
      of_zone = there.0;
      owner_is = (name_eq_decides rr.owner owner).0 parts.0;
      of_type = parts.1;
      has_it = ap target_of same ∙ gives;
    }

-- a first name is one of the names
pub first_there : (names : List Labels) (name : Labels) → first_name names ≡ Some name → Contains names name
first_there [] name e = cc
first_there (first ∷ names) name e = let same : first ≡ name = cc in subst (Contains (first ∷ names)) same (has_first first names)

-- an NS record's data with a target
pub ns_data : (rdata : Rdata) (target : Labels) → has_type types.Ns rdata ≡ true → target_of rdata ≡ Some target → rdata ≡ Ns target
ns_data (Ns other) target is e = let same : other ≡ target = cc in ap (λ (t : Labels). Ns t) same
ns_data (Cname other) target is e = cc
ns_data (Dname other) target is e = cc
ns_data rdata target is e = cc

-- a CNAME record's
pub cname_data : (rdata : Rdata) (target : Labels) → has_type types.Cname rdata ≡ true → target_of rdata ≡ Some target → rdata ≡ Cname target
cname_data (Cname other) target is e = let same : other ≡ target = cc in ap (λ (t : Labels). Cname t) same
cname_data (Ns other) target is e = cc
cname_data (Dname other) target is e = cc
cname_data rdata target is e = cc

-- a DNAME record's
pub dname_data : (rdata : Rdata) (target : Labels) → has_type types.Dname rdata ≡ true → target_of rdata ≡ Some target → rdata ≡ Dname target
dname_data (Dname other) target is e = let same : other ≡ target = cc in ap (λ (t : Labels). Dname t) same
dname_data (Ns other) target is e = cc
dname_data (Cname other) target is e = cc
dname_data rdata target is e = cc

-- each name server of a name is the target of an NS record
pub from_ns_names : (zone : Zone) (owner ns : Labels) → Contains (ns_names zone owner) ns → HasTarget zone owner types.Ns ns
from_ns_names zone owner ns has = from_targets zone owner types.Ns ns (from_order name_cmp (targets_at zone owner types.Ns) ns has)
