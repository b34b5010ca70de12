-- The owner of a DNAME record that decides at a name has a target.
use Rattle.std.proofs.Common.{◌≡◌, Bool, true, false, cond, ◌&&◌, List, [], ◌∷◌, length, filter, Contains, Option, Some, None, refl}
use Rattle.std.specs.Prelude.{nat_lt, nat_le}
use Rattle.std.proofs.lemmas.Bool.{and_parts}
use Rattle.dns_data.specs.Name.{Labels, name_eq}
use Rattle.dns_data.specs.Rdata.{has_type}
use Rattle.dns_data.specs.declared.rdata.Rdata.{Rdata}
use Rattle.dns_data.specs.declared.rdata.Rdata.TheVariants.{Dname}
use Rattle.dns_data.specs.declared.rr_type.RrType.TheVariants as types
use Rattle.dns_data.proofs.Membership.{filter_has, map_has, none_in_nil}
use Rattle.dns_data.proofs.Searches.{filter_map_has, found_there, from_any}
use Rattle.net_model.specs.declared.config.Zone.{Zone}
use Rattle.net_model.specs.Lookup.{ByCut, ByRedirection, ByRecords, ByNothing, by_dname, zone_cut, dname_owner, closest_encloser, first_name, source_of_synthesis, synthesized, shorter_decides, decided, deciding}
use Rattle.net_model.specs.Prefix.{prefixes}
use Rattle.net_model.specs.Zone.{data_at, exists_in, is_of, owns, target_of, targets_at}

-- where a redirection decides, it is by the DNAME owner
pub owner_decides : (zone : Zone) (name owner : Labels) (target : Option Labels) (cut first : Option Labels)
    → decided zone name (shorter_decides zone cut first) ≡ ByRedirection owner target → first ≡ Some owner
owner_decides zone name owner target (Some cut) None e = cc
owner_decides zone name owner target (Some cut) (Some first) e = by (nat_lt (length first) (length cut)) e where
  by : (b : Bool) → cond b (by_dname zone first) (ByCut cut) ≡ ByRedirection owner target → Some first ≡ Some owner
  by true is = cc
  by false is = cc
owner_decides zone name owner target None (Some first) e = cc
owner_decides zone name owner target None None e = by (exists_in zone name) (closest_encloser zone name) e where
  source : (b : Bool) (encloser : Labels) → cond b (ByRecords (source_of_synthesis encloser)) ByNothing ≡ ByRedirection owner target → None ≡ Some owner
  source true encloser is = cc
  source false encloser is = cc

  by : (b : Bool) (encloser : Option Labels) → cond b (ByRecords name) (synthesized zone encloser) ≡ ByRedirection owner target → None ≡ Some owner
  by true encloser is = cc
  by false None is = cc
  by false (Some encloser) is = source (exists_in zone (source_of_synthesis encloser)) encloser is

-- a DNAME record's data hold a target
dname_data : (rdata : Rdata) → has_type types.Dname rdata ≡ true → (target : Labels) × (target_of rdata ≡ Some target)
dname_data (Dname target) is = (target, refl)
dname_data _ is = cc

-- some names have a first
has_none : (names : List Labels) (name : Labels) → Contains names name → first_name names ≡ None → ⊥
has_none [] name has e = none_in_nil name has
has_none (first ∷ rest) name has e = cc

-- so an owner of one has a first target
owner_has : (zone : Zone) (owner : Labels) → owns zone owner types.Dname ≡ true → first_name (targets_at zone owner types.Dname) ≡ None → ⊥
owner_has zone owner has =
    let found = from_any (is_of owner types.Dname) zone.rrs has in
    let target = dname_data found.0.rdata (and_parts (name_eq found.0.owner owner) (has_type types.Dname found.0.rdata) found.2).1 in
    has_none (targets_at zone owner types.Dname) target.0
    (filter_map_has target_of (data_at zone owner types.Dname) found.0.rdata target.0
    (map_has (λ rr. rr.rdata) (filter (is_of owner types.Dname) zone.rrs) found.0 (filter_has (is_of owner types.Dname) zone.rrs found.0 found.1 found.2)) target.1)

-- an owner whose DNAME record decides at a name has a target
pub has_target : (zone : Zone) (name owner : Labels) → deciding zone name ≡ by_dname zone owner → first_name (targets_at zone owner types.Dname) ≡ None → ⊥
has_target zone name owner e =
    let is : dname_owner zone name ≡ Some owner = owner_decides zone name owner _ (zone_cut zone name) (dname_owner zone name) e in
    owner_has zone owner
    (and_parts (nat_le (length zone.origin) (length owner) && nat_lt (length owner) (length name)) (owns zone owner types.Dname)
    (found_there (λ (above : Labels). nat_le (length zone.origin) (length above) && nat_lt (length above) (length name) && owns zone above types.Dname) (prefixes name) owner is).1).1
