-- What redirects a name owns a DNAME record, which has a target.
use Rattle.std.proofs.Common.{◌≡◌, ◌∙◌, Bool, true, false, cond, List, [], ◌∷◌, filter, Contains, Option, Some, None, refl, sym, ap}
use Rattle.std.specs.Prelude.{◌&&◌, nat_le, nat_lt, length}
use Rattle.std.proofs.lemmas.Bool.{and_parts}
use Rattle.dns_data.specs.Name.{Labels, name_eq}
use Rattle.dns_data.specs.Rdata.{has_type}
use Rattle.dns_data.specs.declared.rdata.Rdata.{Rdata}
use Rattle.dns_data.specs.declared.rdata.Rdata.TheVariants.{Dname}
use Rattle.dns_data.specs.declared.rr_type.RrType.TheVariants as types
use Rattle.dns_data.proofs.Membership.{none_in_nil, has_first, filter_has, map_has}
use Rattle.dns_data.proofs.Searches.{from_any, filter_map_has, found_there}
use Rattle.net_model.specs.declared.config.Zone.{Zone}
use Rattle.net_model.specs.Lookup.{ByCut, ByRedirection, ByRecords, ByNothing, zone_cut, dname_owner, first_name, source_of_synthesis, closest_encloser, by_dname, synthesized, shorter_decides, decided, deciding}
use Rattle.net_model.specs.Prefix.{prefixes}
use Rattle.net_model.specs.Zone.{is_of, owns, exists_in, target_of, data_at, targets_at}

-- a DNAME record's data hold a target
dname_data : (rdata : Rdata) → has_type types.Dname rdata ≡ true → (target : Labels) × (target_of rdata ≡ Some target)
dname_data (Dname target) is = (target, refl)
dname_data _ is = cc

-- an owner of a DNAME record has a target
owner_has : (zone : Zone) (owner : Labels) → owns zone owner types.Dname ≡ true → (to : Labels) × Contains (targets_at zone owner types.Dname) to
owner_has zone owner owned =
    let found = from_any (is_of owner types.Dname) zone.rrs owned in
    let target = dname_data found.0.rdata (and_parts (name_eq found.0.owner owner) (has_type types.Dname found.0.rdata) found.2).1 in (
      target.0,
      filter_map_has target_of (data_at zone owner types.Dname) found.0.rdata target.0
          (map_has (λ rr. rr.rdata) (filter (is_of owner types.Dname) zone.rrs) found.0 (filter_has (is_of owner types.Dname) zone.rrs found.0 found.1 found.2)) target.1,
    )

-- the first of some names is one of them
first_is : (names : List Labels) (to : Labels) → Contains names to → (first : Labels) × (first_name names ≡ Some first) × Contains names first
first_is [] to has = absurd (none_in_nil to has)
first_is (name ∷ names) to has = (name, refl, has_first name names)

module _ (zone : Zone) (name owner : Labels) (target : Option Labels) where
  source_redirects : (encloser : Option Labels) → synthesized zone encloser ≡ ByRedirection owner target → ⊥
  source_redirects None e = cc
  source_redirects (Some encloser) e = by (exists_in zone (source_of_synthesis encloser)) e where
    by : (b : Bool) → cond b (ByRecords (source_of_synthesis encloser)) ByNothing ≡ ByRedirection owner target → ⊥
    by true e = cc
    by false e = cc

  -- if a redirection decides at a name, it is that of the name's DNAME owner
  is_the_owner : (cut redirecting : Option Labels) → decided zone name (shorter_decides zone cut redirecting) ≡ ByRedirection owner target
      → (redirecting ≡ Some owner) × (target ≡ first_name (targets_at zone owner types.Dname))
  is_the_owner (Some cut) None e = cc
  is_the_owner (Some cut) (Some above) e = by (nat_lt (length above) (length cut)) e where
    by : (b : Bool) → cond b (by_dname zone above) (ByCut cut) ≡ ByRedirection owner target
        → (Some above ≡ Some owner) × (target ≡ first_name (targets_at zone owner types.Dname))
    by true e = told zone above e where
      told : (zone : Zone) (above : Labels) → by_dname zone above ≡ ByRedirection owner target → (Some above ≡ Some owner) × (target ≡ first_name (targets_at zone owner types.Dname))
      told zone above e =
          let same : above ≡ owner = cc in
          let to : first_name (targets_at zone above types.Dname) ≡ target = cc in
          (ap (λ (x : Labels). Some x) same, sym to ∙ ap (λ (x : Labels). first_name (targets_at zone x types.Dname)) same)
    by false e = cc
  is_the_owner None (Some above) e =
      let same : above ≡ owner = cc in
      let to : first_name (targets_at zone above types.Dname) ≡ target = cc in
      (ap (λ (x : Labels). Some x) same, sym to ∙ ap (λ (x : Labels). first_name (targets_at zone x types.Dname)) same)
  is_the_owner None None e = by (exists_in zone name) e where
    by : (b : Bool) → cond b (ByRecords name) (synthesized zone (closest_encloser zone name)) ≡ ByRedirection owner target
        → (None ≡ Some owner) × (target ≡ first_name (targets_at zone owner types.Dname))
    by true e = cc
    by false e = absurd (source_redirects (closest_encloser zone name) e)

  -- so its owner has a DNAME record with the target
  pub redirection_found : deciding zone name ≡ ByRedirection owner target → (to : Labels) × (target ≡ Some to) × Contains (targets_at zone owner types.Dname) to
  redirection_found e =
      let (redirects, is) = is_the_owner (zone_cut zone name) (dname_owner zone name) e in
      let passes = (found_there (λ above. nat_le (length zone.origin) (length above) && nat_lt (length above) (length name) && owns zone above types.Dname) (prefixes name) owner redirects).1 in
      let owned = (and_parts (nat_le (length zone.origin) (length owner) && nat_lt (length owner) (length name)) (owns zone owner types.Dname) passes).1 in
      let has = owner_has zone owner owned in
      let first = first_is (targets_at zone owner types.Dname) has.0 has.1 in
      (first.0, is ∙ first.1, first.2)
