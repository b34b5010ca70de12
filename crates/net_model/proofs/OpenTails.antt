-- What decides at a known name with an open tail, and that it is one for all tails.
use Rattle.std.proofs.Common.{◌≡◌, ℕ, Bool, true, false, cond, ◌&&◌, List, [], ◌∷◌, ◌++◌, length, Contains, Option, Some, None, sym, refl, ap, ◌∙◌, subst, true≢false, arith, append_assoc, length-append, lt-ltb}
use Rattle.std.specs.Prelude.{nat_lt, nat_le}
use Rattle.std.proofs.lemmas.Bool.{and_parts, and_right, false_from_ne_true}
use Rattle.dns_data.specs.Name.{Labels, name_eq, is_prefix}
use Rattle.dns_data.specs.Rdata.{has_type}
use Rattle.dns_data.specs.declared.rr_type.RrType.{RrType}
use Rattle.dns_data.specs.declared.rr_type.RrType.TheVariants as types
use Rattle.dns_data.proofs.Membership.{from_map}
use Rattle.dns_data.proofs.NameFronts.{Begins, is_prefix_tells, is_prefix_told, begins_itself}
use Rattle.dns_data.proofs.Names.{name_eq_decides}
use Rattle.dns_data.proofs.Searches.{from_any, find_same}
use Rattle.net_model.specs.declared.config.Zone.{Zone}
use Rattle.net_model.specs.Lookup.{Deciding, zone_cut, dname_owner, closest_encloser, synthesized, shorter_decides, decided, deciding, ByRecords}
use Rattle.net_model.specs.OpenTail.{IsOpenTail, redirecting, open_decided, open_deciding}
use Rattle.net_model.specs.Prefix.{prefixes, shortest}
use Rattle.net_model.specs.Zone.{exists_in, owns, is_of}
use Rattle.net_model.proofs.Descent.{owner_below_exists, prefix_exists, prefix_of_prefix, shorter_passes}
use Rattle.net_model.proofs.Prefixes.{longer, from_prefixes, shortest_above, longest_above}

-- a name at or below the origin that owns a record exists
pub owner_exists : (zone : Zone) (name : Labels) (rtype : RrType) → is_prefix zone.origin name ≡ true → owns zone name rtype ≡ true
    → exists_in zone name ≡ true
owner_exists zone name rtype inside owner =
    let found = from_any (is_of name rtype) zone.rrs owner in
    let is : found.0.owner ≡ name =
    (name_eq_decides found.0.owner name).0 (and_parts (name_eq found.0.owner name) (has_type rtype found.0.rdata) found.2).0 in
    owner_below_exists zone name found.0 inside found.1 (subst (λ (x : Labels). is_prefix name x ≡ true) (sym is) (begins_itself name))

module _ (zone : Zone) (above : Labels) (label : List ℕ) (rest : Labels) (inside : is_prefix zone.origin above ≡ true)
    (absent : exists_in zone (above ++ label ∷ []) ≡ false) where
  -- a longer front of the labels begins with the first
  further : (below : Labels) → Contains (longer (label ∷ rest)) below → (beneath : Labels) × (above ++ below ≡ (above ++ label ∷ []) ++ beneath)
  further below has =
      let found = from_map (λ (x : Labels). label ∷ x) (prefixes rest) below has in
      (found.0, ap (λ (x : Labels). above ++ x) (sym found.2) ∙ sym (append_assoc above (label ∷ []) found.0))

  inside_further : (beneath : Labels) → is_prefix zone.origin ((above ++ label ∷ []) ++ beneath) ≡ true
  inside_further beneath =
      is_prefix_told zone.origin ((above ++ label ∷ []) ++ beneath)
      (prefix_of_prefix zone.origin above ((above ++ label ∷ []) ++ beneath) (is_prefix_tells zone.origin above inside)
      ((label ∷ []) ++ beneath, sym (append_assoc above (label ∷ []) beneath)))

  inside_next : is_prefix zone.origin (above ++ label ∷ []) ≡ true
  inside_next =
      is_prefix_told zone.origin (above ++ label ∷ [])
      (prefix_of_prefix zone.origin above (above ++ label ∷ []) (is_prefix_tells zone.origin above inside) (label ∷ [], refl))

  -- no name further down exists
  none_beneath : (beneath : Labels) → exists_in zone ((above ++ label ∷ []) ++ beneath) ≡ false
  none_beneath beneath =
      false_from_ne_true (exists_in zone ((above ++ label ∷ []) ++ beneath))
      (λ e. true≢false (sym (prefix_exists zone (above ++ label ∷ []) beneath inside_next e) ∙ absent))

  -- if the known name with the tail's first label doesn't exist, nor does it with any other front of the tail
  pub none_exists : (below : Labels) → Contains (longer (label ∷ rest)) below → exists_in zone (above ++ below) ≡ false
  none_exists below has = let way = further below has in ap (exists_in zone) way.1 ∙ none_beneath way.0

  -- if the known name with the tail's first label doesn't exist, it owns no record with any front of the tail
  pub none_owns : (rtype : RrType) (below : Labels) → Contains (longer (label ∷ rest)) below → owns zone (above ++ below) rtype ≡ false
  none_owns rtype below has =
      let way = further below has in
      false_from_ne_true (owns zone (above ++ below) rtype)
      (λ e. true≢false (sym (owner_exists zone (above ++ below) rtype (ap (is_prefix zone.origin) way.1 ∙ inside_further way.0) e) ∙ none_exists below has))

  -- the name with all the labels doesn't exist
  pub whole_is_missing : exists_in zone (above ++ label ∷ rest) ≡ false
  whole_is_missing = ap (exists_in zone) (sym (append_assoc above (label ∷ []) rest)) ∙ none_beneath rest

  -- the zone cut of the known name with the tail is that of the known name
  pub zone_cut_above : zone_cut zone (above ++ label ∷ rest) ≡ zone_cut zone above
  zone_cut_above =
      shortest_above (λ name. nat_lt (length zone.origin) (length name) && owns zone name types.Ns) above (label ∷ rest)
      (λ below has. and_right (nat_lt (length zone.origin) (length (above ++ below))) (owns zone (above ++ below) types.Ns) (none_owns types.Ns below has))

  -- the closest encloser of the known name with the tail is that of the known name
  pub closest_encloser_above : closest_encloser zone (above ++ label ∷ rest) ≡ closest_encloser zone above
  closest_encloser_above = longest_above (exists_in zone) above (label ∷ rest) none_exists

  -- the test of a prefix shorter than the whole name, which all prefixes of the name above are
  abbrev redirects_whole : Labels → Bool
  redirects_whole name =
      nat_le (length zone.origin) (length name) && nat_lt (length name) (length (above ++ label ∷ rest)) && owns zone name types.Dname

  are_shorter : (name : Labels) → Begins name above
      → redirects_whole name ≡ (nat_le (length zone.origin) (length name) && owns zone name types.Dname)
  are_shorter name (below, e) =
      shorter_passes (nat_le (length zone.origin) (length name)) (nat_lt (length name) (length (above ++ label ∷ rest))) (owns zone name types.Dname)
      (lt-ltb (length name) (length (above ++ label ∷ rest)) (omega (arith, ap length e, length-append name below, length-append above (label ∷ rest))))

  -- the DNAME owner for the known name with the tail is a prefix of the known name
  pub dname_owner_within : dname_owner zone (above ++ label ∷ rest) ≡ shortest redirects_whole above
  dname_owner_within =
      shortest_above redirects_whole above (label ∷ rest)
      (λ below has. and_right (nat_le (length zone.origin) (length (above ++ below)) && nat_lt (length (above ++ below)) (length (above ++ label ∷ rest)))
      (owns zone (above ++ below) types.Dname) (none_owns types.Dname below has))

  -- the DNAME owner for the known name with the tail is the one that redirects all names below the known name
  pub dname_owner_above : dname_owner zone (above ++ label ∷ rest) ≡ redirecting zone above
  dname_owner_above =
      dname_owner_within
      ∙ find_same redirects_whole (λ name. nat_le (length zone.origin) (length name) && owns zone name types.Dname) (prefixes above)
      (λ name has. are_shorter name (from_prefixes above name has))

  -- given the zone cut or DNAME owner above, or neither, what decides at the known name with the tail decides there
  -- with any open tail
  pub missing_decided : (above_it : Option Deciding) → decided zone (above ++ label ∷ rest) above_it ≡ open_decided zone above above_it
  missing_decided (Some decides) = refl
  missing_decided None =
      ap (λ (b : Bool). cond b (ByRecords (above ++ label ∷ rest)) (synthesized zone (closest_encloser zone (above ++ label ∷ rest)))) whole_is_missing
      ∙ ap (synthesized zone) closest_encloser_above

  -- one value decides at the known name with the tail, whatever the tail's other labels are
  pub deciding_open : deciding zone (above ++ label ∷ rest) ≡ open_deciding zone above
  deciding_open =
      missing_decided (shorter_decides zone (zone_cut zone (above ++ label ∷ rest)) (dname_owner zone (above ++ label ∷ rest)))
      ∙ ap (λ (cut : Option Labels). open_decided zone above (shorter_decides zone cut (dname_owner zone (above ++ label ∷ rest)))) zone_cut_above
      ∙ ap (λ (owner : Option Labels). open_decided zone above (shorter_decides zone (zone_cut zone above) owner)) dname_owner_above

-- one value decides at the known name with any open tail
pub open_tail : (zone : Zone) (known tail : Labels) → IsOpenTail zone known tail → deciding zone (known ++ tail) ≡ open_deciding zone known
open_tail zone known tail opens =
    ap (λ (x : Labels). deciding zone (known ++ x)) opens.is ∙ deciding_open zone known opens.first opens.rest opens.inside opens.free
