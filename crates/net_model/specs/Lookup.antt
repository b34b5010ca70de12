-- The lookup of a name and a type in a zone whose origin is at or above the name (RFC 1034 section 4.3.2,
-- RFC 4592 section 3.3, RFC 6672 section 3.2).
use Rattle.std.specs.Prelude.{true, false, ◌&&◌, nat_lt, nat_le, List, [], ◌∷◌, ◌++◌, length, codes, Option, Some, None, if◌then◌else◌}
use Rattle.dns_data.specs.Name.{Labels, wire_octets, swap}
use Rattle.dns_data.specs.RrType.{type_eq}
use Rattle.dns_data.specs.declared.rdata.Rdata.{Rdata}
use Rattle.dns_data.specs.declared.rr_type.RrType.{RrType}
use Rattle.dns_data.specs.declared.rr_type.RrType.TheVariants as types
use Rattle.net_model.specs.declared.config.Zone.{Zone}
use Rattle.net_model.specs.declared.found.Found.{Found}
use Rattle.net_model.specs.declared.found.Found.TheVariants.{Referral, Rewrite, TooLong, Answer, NoData, NxDomain}
use Rattle.net_model.specs.Order.{in_order}
use Rattle.net_model.specs.Prefix.{shortest, longest}
use Rattle.net_model.specs.Zone.{owns, exists_in, targets_at, data_at, ns_names, data_cmp}

-- the zone cut at or above the name: its shortest prefix below the origin that owns an NS record
-- (RFC 1034 section 4.3.2, step 3b)
abbrev pub zone_cut : Zone → Labels → Option Labels
zone_cut zone name =
    shortest (λ above. nat_lt (length zone.origin) (length above) && owns zone above types.Ns) name

-- the owner whose DNAME record redirects the name: its shortest proper prefix, the origin allowed, that owns
-- one (RFC 6672 section 3.2, step 3c)
abbrev pub dname_owner : Zone → Labels → Option Labels
dname_owner zone name =
    shortest
    (λ above. nat_le (length zone.origin) (length above) && nat_lt (length above) (length name)
    && owns zone above types.Dname)
    name

-- the first of some names, if there is one
abbrev pub first_name : List Labels → Option Labels
first_name [] = None
first_name (name ∷ names) = Some name

-- the longest existing prefix of the name (RFC 4592 section 3.3.1)
abbrev pub closest_encloser : Zone → Labels → Option Labels
closest_encloser zone name = longest (exists_in zone) name

-- the asterisk label directly below the closest encloser (RFC 4592 section 3.3.1)
abbrev pub source_of_synthesis : Labels → Labels
source_of_synthesis encloser = encloser ++ codes "*" ∷ []

-- what decides at a name, whatever the type: a zone cut; the owner of a DNAME record, with the record's target; the
-- owner whose records are the name's, which is the name itself or its source of synthesis; or nothing
pub data Deciding : Type 0 where
  ByCut : (cut : Labels) → Deciding
  ByRedirection : (owner : Labels) (target : Option Labels) → Deciding
  ByRecords : (owner : Labels) → Deciding
  ByNothing : Deciding

-- the DNAME record of the owner decides, the first one in file order (RFC 6672 section 2.4)
abbrev pub by_dname : Zone → Labels → Deciding
by_dname zone owner = ByRedirection owner (first_name (targets_at zone owner types.Dname))

-- at a name that doesn't exist its source of synthesis stands for it, if there is one (RFC 4592 section 3.3.1)
abbrev pub synthesized : Zone → Option Labels → Deciding
synthesized zone None = ByNothing
synthesized zone (Some encloser) =
    if exists_in zone (source_of_synthesis encloser) then ByRecords (source_of_synthesis encloser) else ByNothing

-- if a name has a zone cut and a DNAME owner, the shorter one decides, and the cut if they are one name
abbrev pub shorter_decides : Zone → Option Labels → Option Labels → Option Deciding
shorter_decides zone (Some cut) None = Some (ByCut cut)
shorter_decides zone (Some cut) (Some owner) =
    Some (if nat_lt (length owner) (length cut) then by_dname zone owner else ByCut cut)
shorter_decides zone None (Some owner) = Some (by_dname zone owner)
shorter_decides zone None None = None

-- what decides at a name: the zone cut or the DNAME owner; without either the name's own records, or those of its
-- wildcard
abbrev pub decided : Zone → Labels → Option Deciding → Deciding
decided zone name (Some above) = above
decided zone name None = if exists_in zone name then ByRecords name else synthesized zone (closest_encloser zone name)

-- what decides at the name in the zone
abbrev pub deciding : Zone → Labels → Deciding
deciding zone name = decided zone name (shorter_decides zone (zone_cut zone name) (dname_owner zone name))

-- the data of a type, or that there are none
abbrev pub answer_of : List Rdata → Found
answer_of [] = NoData
answer_of (first ∷ rest) = Answer (first ∷ rest)

-- what an existing name gives: the rewrite of its alias, if that counts, or its data of the type
abbrev pub aliased : Zone → Labels → RrType → Option Labels → Found
aliased zone owner rtype (Some target) = Rewrite false owner target
aliased zone owner rtype None = answer_of (in_order data_cmp (data_at zone owner rtype))

-- what the records of an existing name give: a CNAME record rewrites the query of any other type
-- (RFC 1034 sections 3.6.2 and 4.3.2, step 3a)
abbrev pub at_name : Zone → Labels → RrType → Found
at_name zone owner rtype =
    aliased zone owner rtype
    (if type_eq rtype types.Cname then None else first_name (targets_at zone owner types.Cname))

-- What a DNAME record gives for a name below its owner (RFC 6672 section 2.2). An owner of one has a target, so the
-- first line is never reached.
abbrev pub redirected : Labels → Labels → Option Labels → Found
redirected name owner None = NxDomain
redirected name owner (Some target) =
    if nat_le (wire_octets (swap name owner target)) 255 then Rewrite true owner (swap name owner target)
    else TooLong owner

-- what that which decides answers to the name and the type: only records look at the type, and only a redirection at
-- the name
abbrev pub answered : Zone → Labels → RrType → Deciding → Found
answered zone name rtype (ByCut cut) = Referral cut (ns_names zone cut)
answered zone name rtype (ByRedirection owner target) = redirected name owner target
answered zone name rtype (ByRecords owner) = at_name zone owner rtype
answered zone name rtype ByNothing = NxDomain

-- what the zone answers to the name and the type
abbrev pub found : Zone → Labels → RrType → Found
found zone name rtype = answered zone name rtype (deciding zone name)
