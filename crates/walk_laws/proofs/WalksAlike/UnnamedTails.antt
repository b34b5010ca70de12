-- Below a name with an unnamed tail a configuration has nothing: no origin and no owner stands there, so each server looks
-- the name up in the zone of the name above. And a redirection keeps the tail unnamed.
use Rattle.std.proofs.Common.{◌≡◌, ℕ, Bool, true, false, List, [], ◌∷◌, ◌++◌, length, flat_map, Contains, Option, Some, None, is_some, option_and_then, nat_lt, if◌then◌else◌, sym, refl, ap, ◌∙◌, subst, append_assoc, append-nil, drop_at}
use Rattle.std.specs.List.{list_any, filter}
use Rattle.std.proofs.lemmas.Bool.{and_parts, or_from, and_right}
use Rattle.dns_data.specs.Name.{Labels, name_eq, is_prefix, swap}
use Rattle.dns_data.specs.Rdata.{has_type}
use Rattle.dns_data.specs.declared.rdata.Rdata.{Rdata}
use Rattle.dns_data.specs.declared.rdata.Rdata.TheVariants.{Dname}
use Rattle.dns_data.specs.declared.rdata.Rr.{Rr}
use Rattle.dns_data.specs.declared.rr_type.RrType.TheVariants as types
use Rattle.dns_data.proofs.Membership.{has_first, has_later, from_map, flat_map_has, from_filter}
use Rattle.dns_data.proofs.NameFronts.{Begins, is_prefix_tells, is_prefix_told}
use Rattle.dns_data.proofs.Names.{name_eq_decides}
use Rattle.dns_data.proofs.Searches.{any_none, find_none, from_filter_map, found_there}
use Rattle.net_model.specs.declared.config.Config.{Config}
use Rattle.net_model.specs.declared.config.Server.{Server}
use Rattle.net_model.specs.declared.config.Zone.{Zone}
use Rattle.net_model.specs.Lookup.{Deciding, ByCut, ByRedirection, ByRecords, ByNothing, by_dname, synthesized, shorter_decides, closest_encloser, zone_cut, source_of_synthesis, first_name}
use Rattle.net_model.specs.Nearest.{server_named, zone_with_origin, nearest, nearest_of}
use Rattle.net_model.specs.OpenTail.{IsOpenTail, redirecting, open_decided, open_deciding}
use Rattle.net_model.specs.Prefix.{prefixes}
use Rattle.net_model.specs.Reading.{IsNamed, zones, records, redirection_of, redirections_of, origins_and_owners, ground_of}
use Rattle.net_model.specs.Tails.{IsUnnamedTail}
use Rattle.net_model.specs.Zone.{is_of, exists_in, target_of, data_at, targets_at}
use Rattle.net_model.proofs.Naming.{among_named, one_reading_more}
use Rattle.net_model.proofs.NearestZones.{zone_of_config, origin_of_config, record_of_config, owner_of_config, nearest_tells}
use Rattle.net_model.proofs.Prefixes.{prefixes_have, from_prefixes, longer, longest_above}

-- ---- nothing stands below an unnamed name

module _ (config : Config) (above : Labels) (first : List ℕ) (unnamed : IsNamed (ground_of config) (above ++ first ∷ []) → ⊥) where
  -- no origin or owner of the configuration is at or below a name that it doesn't name
  pub far_names : (name : Labels) → Contains (origins_and_owners config) name → Begins (above ++ first ∷ []) name → ⊥
  far_names name has begins =
      unnamed (among_named (ground_of config) (above ++ first ∷ [])
      (has_later [] (flat_map prefixes (origins_and_owners config)) (above ++ first ∷ [])
      (flat_map_has prefixes (origins_and_owners config) name (above ++ first ∷ []) has (prefixes_have name (above ++ first ∷ []) begins))))

  -- so a server has no zone of such an origin
  no_zone_below : (server : Server) (below : Labels) → Contains config.servers server → zone_with_origin server (above ++ first ∷ below) ≡ None
  no_zone_below server below has =
      find_none (λ (zone : Zone). name_eq zone.origin (above ++ first ∷ below)) server.zones (λ zone inside. by zone inside (name_eq zone.origin (above ++ first ∷ below)) refl)
    where
      by : (zone : Zone) → Contains server.zones zone → (b : Bool) → name_eq zone.origin (above ++ first ∷ below) ≡ b → b ≡ false
      by zone inside false e = refl
      by zone inside true e =
          absurd (far_names zone.origin (origin_of_config config zone (zone_of_config config server zone has inside))
          (below, append_assoc above (first ∷ []) below ∙ sym ((name_eq_decides zone.origin (above ++ first ∷ below)).0 e)))

  -- and its nearest zone for a name below it is that for the name above
  nearest_above : (server : Server) (rest : Labels) → Contains config.servers server → nearest server (above ++ first ∷ rest) ≡ nearest server above
  nearest_above server rest has =
      ap (option_and_then (zone_with_origin server))
      (longest_above (λ name. is_some (zone_with_origin server name)) above (first ∷ rest) (λ below inside. fails below inside))
    where
      fails : (below : Labels) → Contains (longer (first ∷ rest)) below → is_some (zone_with_origin server (above ++ below)) ≡ false
      fails below inside =
          let from = from_map (λ (x : Labels). first ∷ x) (prefixes rest) below inside in
          ap (λ (x : Labels). is_some (zone_with_origin server (above ++ x))) (sym from.2)
          ∙ ap (λ (o : Option Zone). is_some o) (no_zone_below server from.0 has)

  nearest_of_above : (server rest : Labels) → nearest_of config server (above ++ first ∷ rest) ≡ nearest_of config server above
  nearest_of_above server rest = by (server_named config server) refl where
    by : (holder : Option Server) → server_named config server ≡ holder
        → option_and_then (λ holder. nearest holder (above ++ first ∷ rest)) holder ≡ option_and_then (λ holder. nearest holder above) holder
    by None is = refl
    by (Some holder) is = nearest_above holder rest (found_there (λ (s : Server). name_eq s.name server) config.servers holder is).0

  -- a name that the configuration doesn't name exists in none of its zones
  pub unnamed_is_missing : (zone : Zone) → Contains (zones config) zone → exists_in zone (above ++ first ∷ []) ≡ false
  unnamed_is_missing zone has =
      or_from (name_eq (above ++ first ∷ []) zone.origin) _ (at_origin (name_eq (above ++ first ∷ []) zone.origin) refl)
      (and_right (is_prefix zone.origin (above ++ first ∷ [])) (list_any (λ rr. is_prefix (above ++ first ∷ []) rr.owner) zone.rrs)
      (any_none (λ (rr : Rr). is_prefix (above ++ first ∷ []) rr.owner) zone.rrs (λ rr inside. at_owner rr inside (is_prefix (above ++ first ∷ []) rr.owner) refl)))
    where
      at_origin : (b : Bool) → name_eq (above ++ first ∷ []) zone.origin ≡ b → b ≡ false
      at_origin false e = refl
      at_origin true e =
          absurd (far_names zone.origin (origin_of_config config zone has)
          ([], append-nil (above ++ first ∷ []) ∙ (name_eq_decides (above ++ first ∷ []) zone.origin).0 e))

      at_owner : (rr : Rr) → Contains zone.rrs rr → (b : Bool) → is_prefix (above ++ first ∷ []) rr.owner ≡ b → b ≡ false
      at_owner rr inside false e = refl
      at_owner rr inside true e =
          absurd (far_names rr.owner (owner_of_config config zone rr has inside) (is_prefix_tells (above ++ first ∷ []) rr.owner e))

-- a server looks a name with an unnamed tail up in the zone of the name above
pub nearest_with_tail : (config : Config) (above tail : Labels) → IsUnnamedTail config above tail
    → (server : Labels) → nearest_of config server (above ++ tail) ≡ nearest_of config server above
nearest_with_tail config above tail is server =
    ap (λ (x : Labels). nearest_of config server (above ++ x)) is.is ∙ nearest_of_above config above is.first is.unnamed server is.rest

-- in the zone in which a server looks the name above up, an unnamed tail is open
pub opens_in : (config : Config) (above tail server : Labels) (zone : Zone) → IsUnnamedTail config above tail
    → nearest_of config server above ≡ Some zone → IsOpenTail zone above tail
opens_in config above tail server zone is nearest =
    let holds = nearest_tells config server above zone nearest in
    record {
      first = is.first;
      rest = is.rest;
      is = is.is;
      inside = is_prefix_told zone.origin above holds.1;
      free = unnamed_is_missing config above is.first is.unnamed zone holds.0;
    }

-- ---- redirections

-- a DNAME record's data hold its target
dname_data : (rdata : Rdata) (target : Labels) → target_of rdata ≡ Some target → has_type types.Dname rdata ≡ true
    → (owner : Labels) → Contains (redirection_of owner rdata) (record { owner = owner; target = target })
dname_data (Dname other) target gives is owner =
    let same : other ≡ target = cc in
    subst (λ (t : Labels). Contains (redirection_of owner (Dname other)) (record { owner = owner; target = t })) same
    (has_first (record { owner = owner; target = other }) [])
dname_data _ target gives is owner = cc

-- the first of some names is one of them
pub first_is_one : (names : List Labels) (name : Labels) → first_name names ≡ Some name → Contains names name
first_is_one [] name e = cc
first_is_one (one ∷ names) name e = let same : one ≡ name = cc in subst (Contains (one ∷ names)) same (has_first one names)

-- the owner of a DNAME record of a zone of the configuration, with its target, is one of its redirections
pub redirection_known : (config : Config) (zone : Zone) (owner target : Labels) → Contains (zones config) zone
    → first_name (targets_at zone owner types.Dname) ≡ Some target
    → Contains (redirections_of config) (record { owner = owner; target = target })
redirection_known config zone owner target has first =
    let given = from_filter_map target_of (data_at zone owner types.Dname) target (first_is_one (targets_at zone owner types.Dname) target first) in
    let held = from_map (λ (rr : Rr). rr.rdata) (filter (is_of owner types.Dname) zone.rrs) given.0 given.1 in
    let passed = from_filter (is_of owner types.Dname) zone.rrs held.0 held.1 in
    by held.0 passed.0 (and_parts (name_eq held.0.owner owner) (has_type types.Dname held.0.rdata) passed.1) (ap target_of held.2 ∙ given.2)
  where
    by : (rr : Rr) → Contains zone.rrs rr → (name_eq rr.owner owner ≡ true) × (has_type types.Dname rr.rdata ≡ true) → target_of rr.rdata ≡ Some target
        → Contains (redirections_of config) (record { owner = owner; target = target })
    by rr inside (owned, is) gives =
        subst (λ (o : Labels). Contains (redirections_of config) (record { owner = o; target = target })) ((name_eq_decides rr.owner owner).0 owned)
        (flat_map_has (λ (r : Rr). redirection_of r.owner r.rdata) (records config) rr (record { owner = rr.owner; target = target })
        (record_of_config config zone rr has inside) (dname_data rr.rdata target gives is rr.owner))

-- a redirection that decides is one of the configuration, of an owner at or above the name
abbrev pub IsKnownAbove : Config → Labels → Deciding → Type 0
IsKnownAbove config above (ByRedirection owner (Some target)) =
    (below : Labels) × (above ≡ owner ++ below) × Contains (redirections_of config) (record { owner = owner; target = target })
IsKnownAbove config above decides = Unit {0}

-- if a redirection decides at a name with an open tail, it is one of the configuration, of an owner at or above the
-- name
pub known_above : (config : Config) (zone : Zone) (above : Labels) → Contains (zones config) zone → IsKnownAbove config above (open_deciding zone above)
known_above config zone above has = by (zone_cut zone above) (redirecting zone above) refl where
  redirects : (owner : Labels) → redirecting zone above ≡ Some owner → (target : Option Labels) → first_name (targets_at zone owner types.Dname) ≡ target
      → IsKnownAbove config above (ByRedirection owner target)
  redirects owner found None gives = tt
  redirects owner found (Some target) gives =
      let begins = from_prefixes above owner (found_there _ (prefixes above) owner found).0 in
      (begins.0, sym begins.1, redirection_known config zone owner target has gives)

  shorter : (cut owner : Labels) (b : Bool) → redirecting zone above ≡ Some owner → IsKnownAbove config above (if b then by_dname zone owner else ByCut cut)
  shorter cut owner true found = redirects owner found (first_name (targets_at zone owner types.Dname)) refl
  shorter cut owner false found = tt

  wildcard : (source : Labels) (b : Bool) → IsKnownAbove config above (if b then ByRecords source else ByNothing)
  wildcard source true = tt
  wildcard source false = tt

  neither : (encloser : Option Labels) → IsKnownAbove config above (synthesized zone encloser)
  neither None = tt
  neither (Some encloser) = wildcard (source_of_synthesis encloser) (exists_in zone (source_of_synthesis encloser))

  by : (cut owner : Option Labels) → redirecting zone above ≡ owner → IsKnownAbove config above (open_decided zone above (shorter_decides zone cut owner))
  by (Some cut) None found = tt
  by (Some cut) (Some owner) found = shorter cut owner (nat_lt (length owner) (length cut)) found
  by None (Some owner) found = redirects owner found (first_name (targets_at zone owner types.Dname)) refl
  by None None found = neither (closest_encloser zone above)

-- with a redirection's target in its owner's place the labels below the owner stay
pub swapped_below : (owner target below more : Labels) → swap ((owner ++ below) ++ more) owner target ≡ (target ++ below) ++ more
swapped_below owner target below more =
    ap (λ (x : Labels). swap x owner target) (append_assoc owner below more)
    ∙ ap (λ (x : Labels). target ++ x) (drop_at owner (below ++ more) (length owner) refl)
    ∙ sym (append_assoc target below more)

-- a redirection of a name with an unnamed tail gives one with the same
pub redirected_tail : (config : Config) (owner target below tail : Labels) → Contains (redirections_of config) (record { owner = owner; target = target })
    → IsUnnamedTail config (owner ++ below) tail → IsUnnamedTail config (target ++ below) tail
redirected_tail config owner target below tail known is =
    record {
      first = is.first;
      rest = is.rest;
      is = is.is;
      unnamed = λ named. is.unnamed
          (one_reading_more (ground_of config) ((owner ++ below) ++ is.first ∷ []) (record { owner = owner; target = target }) known
          (is_prefix_told owner ((owner ++ below) ++ is.first ∷ []) (below ++ is.first ∷ [], sym (append_assoc owner below (is.first ∷ []))))
          (subst (IsNamed (ground_of config)) (sym (swapped_below owner target below (is.first ∷ []))) named));
    }
