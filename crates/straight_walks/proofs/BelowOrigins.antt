-- A name is looked up as the longest origin of a zone at or above it is: each server's nearest zone is the same one,
-- and a zone cut that decides at the origin decides at the name.
use Rattle.std.proofs.Common.{◌≡◌, ◌<◌, ◌≤◌, Bool, true, false, cond, ◌&&◌, List, [], ◌∷◌, ◌++◌, map, length, Option, Some, None, find, sym, refl, ap, ◌∙◌, subst, inl, inr, arith, append-nil, append_assoc, length-append, lt-ltb}
use Rattle.std.specs.Prelude.{◌⊎◌, Contains, is_some, nat_le, nat_lt, option_and_then}
use Rattle.std.specs.Option.{option_or}
use Rattle.std.proofs.lemmas.Bool.{le-ltb}
use Rattle.std.proofs.lemmas.List.Folds.{find-append}
use Rattle.dns_data.specs.Name.{Labels, is_prefix}
use Rattle.dns_data.specs.declared.rr_type.RrType.TheVariants as types
use Rattle.dns_data.proofs.Membership.{first_or_later, from_map, none_in_nil}
use Rattle.dns_data.proofs.NameFronts.{Begins, begins_itself, is_prefix_tells, is_prefix_told, two_fronts}
use Rattle.dns_data.proofs.Searches.{find_same, found_there}
use Rattle.net_model.specs.Lookup.{Deciding, ByCut, by_dname, decided, deciding, dname_owner, shorter_decides, zone_cut}
use Rattle.net_model.specs.Nearest.{held_zone, nearest, nearest_of, server_named, zone_with_origin}
use Rattle.net_model.specs.Prefix.{longest, prefixes}
use Rattle.net_model.specs.Zone.{owns}
use Rattle.net_model.specs.declared.config.Config.{Config}
use Rattle.net_model.specs.declared.config.Server.{Server}
use Rattle.net_model.specs.declared.config.Zone.{Zone}
use Rattle.net_model.proofs.Descent.{shorter_passes}
use Rattle.net_model.proofs.Prefixes.{from_prefixes, longer, longest_above, prefixes_below}
use Rattle.net_model.proofs.StepBounds.{is_the_cut}
use Rattle.zone_tree.proofs.Prefixes.{found_above, last_prefix}
use Rattle.straight_walks.specs.Straight.{NoOriginBetween}

-- no origin stands between a name and itself
pub none_between_itself : (config : Config) (name : Labels) → NoOriginBetween config name name
none_between_itself config name = record { above = begins_itself name; none_longer = none_longer } where
  none_longer : (server longer : Labels) → is_prefix longer name ≡ true → length name < length longer → held_zone config server longer ≡ None
  none_longer server longer inside more =
      let begins = is_prefix_tells longer name inside in
      absurd (omega (arith, more, ap (λ (n : Labels). length n) begins.1, length-append longer begins.0))

-- if no origin stands between a name and one below it, nor between that one and a third below it, none stands between
-- the first and the third
pub none_between_further : (config : Config) (upper middle name : Labels) → NoOriginBetween config upper middle → NoOriginBetween config middle name
    → NoOriginBetween config upper name
none_between_further config upper middle name first second = record { above = above; none_longer = none_longer } where
  above : is_prefix upper name ≡ true
  above =
      let one = is_prefix_tells upper middle first.above in
      let other = is_prefix_tells middle name second.above in
      is_prefix_told upper name (one.0 ++ other.0, sym (append_assoc upper one.0 other.0) ∙ ap (λ (n : Labels). n ++ other.0) one.1 ∙ other.1)

  none_longer : (server longer : Labels) → is_prefix longer name ≡ true → length upper < length longer → held_zone config server longer ≡ None
  none_longer server longer inside more =
      let begins = is_prefix_tells longer name inside in
      let other = is_prefix_tells middle name second.above in
      by (two_fronts longer begins.0 middle other.0 (begins.1 ∙ sym other.1))
    where
      by : Begins longer middle ⊎ Begins middle longer → held_zone config server longer ≡ None
      by (inl shorter) = first.none_longer server longer (is_prefix_told longer middle shorter) more
      by (inr (rest, is)) = further rest is where
        further : (rest : Labels) → middle ++ rest ≡ longer → held_zone config server longer ≡ None
        further [] same = first.none_longer server longer (ap (λ (n : Labels). is_prefix n middle) (sym same ∙ append-nil middle) ∙ begins_itself middle) more
        further (label ∷ rest) same =
            second.none_longer server longer inside (omega (arith, ap (λ (n : Labels). length n) same, length-append middle (label ∷ rest)))

-- a longer front has some labels, and begins the rest
longer_begins : (tail below : Labels) → Contains (longer tail) below → (0 < length below) × Begins below tail
longer_begins [] below has = absurd (none_in_nil below has)
longer_begins (label ∷ rest) below has =
    let found = from_map (λ (x : Labels). label ∷ x) (prefixes rest) below has in
    let begins = from_prefixes rest found.0 found.1 in
    subst (λ (x : Labels). (0 < length x) × Begins x (label ∷ rest)) found.2 (omega arith, (begins.0, ap (λ (x : Labels). label ∷ x) begins.1))

-- ---- the nearest zone

module _ (config : Config) (origin name : Labels) (is : NoOriginBetween config origin name) where
  begins : Begins origin name
  begins = is_prefix_tells origin name is.above

  -- a server holds no zone further below
  none_held : (server : Labels) (holder : Server) → server_named config server ≡ Some holder → (below : Labels) → Contains (longer begins.0) below
      → is_some (zone_with_origin holder (origin ++ below)) ≡ false
  none_held server holder named below has =
      let front = longer_begins begins.0 below has in
      let whole : (origin ++ below) ++ front.1.0 ≡ name =
      append_assoc origin below front.1.0 ∙ ap (λ (x : Labels). origin ++ x) front.1.1 ∙ begins.1 in
      let none : held_zone config server (origin ++ below) ≡ None =
      is.none_longer server (origin ++ below) (is_prefix_told (origin ++ below) name (front.1.0, whole)) (omega (arith, front.0, length-append origin below)) in
      ap (λ (z : Option Zone). is_some z)
      (sym (ap (λ (s : Option Server). option_and_then (λ h. zone_with_origin h (origin ++ below)) s) named) ∙ none)

  -- a server's nearest zone for a name below an origin, with no other origin between, is that for the origin
  pub same_nearest : (server : Labels) → nearest_of config server name ≡ nearest_of config server origin
  same_nearest server = by (server_named config server) refl where
    by : (holder : Option Server) → server_named config server ≡ holder
        → option_and_then (λ h. nearest h name) holder ≡ option_and_then (λ h. nearest h origin) holder
    by None named = refl
    by (Some holder) named =
        let test = λ (above : Labels). is_some (zone_with_origin holder above) in
        ap (option_and_then (zone_with_origin holder))
        (ap (longest test) (sym begins.1) ∙ longest_above test origin begins.0 (none_held server holder named))

-- ---- the zone cut

module _ (zone : Zone) (cut : Labels) where
  -- the names above the cut
  abbrev fronts : List Labels
  fronts = (last_prefix cut).0

  abbrev redirects_some : Labels → Bool
  redirects_some above = nat_le (length zone.origin) (length above) && owns zone above types.Dname

  -- the first of them that owns a DNAME record
  abbrev first_owner : Option Labels
  first_owner = find redirects_some fronts

  -- decides, or else the cut
  abbrev by_first : Option Labels → Deciding
  by_first None = ByCut cut
  by_first (Some owner) = cond (nat_lt (length owner) (length cut)) (by_dname zone owner) (ByCut cut)

  module _ (rest : Labels) where
    abbrev whole : Labels
    whole = cut ++ rest

    abbrev redirects_whole : Labels → Bool
    redirects_whole above = nat_le (length zone.origin) (length above) && nat_lt (length above) (length whole) && owns zone above types.Dname

    abbrev behind : List Labels
    behind = cut ∷ map (λ below. cut ++ below) (longer rest)

    all : prefixes whole ≡ fronts ++ behind
    all =
        prefixes_below cut rest
        ∙ ap (λ (names : List Labels). names ++ map (λ below. cut ++ below) (longer rest)) (last_prefix cut).1
        ∙ append_assoc fronts (cut ∷ []) (map (λ below. cut ++ below) (longer rest))

    shorter : (above : Labels) → Contains fronts above → redirects_whole above ≡ redirects_some above
    shorter above has =
        shorter_passes (nat_le (length zone.origin) (length above)) (nat_lt (length above) (length whole)) (owns zone above types.Dname)
        (lt-ltb (length above) (length whole) (omega (arith, (last_prefix cut).2 above has, length-append cut rest)))

    owner_is : dname_owner zone whole ≡ option_or first_owner (find redirects_whole behind)
    owner_is =
        ap (find redirects_whole) all
        ∙ find-append redirects_whole fronts behind
        ∙ ap (λ (o : Option Labels). option_or o (find redirects_whole behind)) (find_same redirects_whole redirects_some fronts shorter)

    as_long : (owner : Labels) → Contains behind owner → length cut ≤ length owner
    as_long owner has = by (first_or_later cut (map (λ below. cut ++ below) (longer rest)) owner has) where
      by : (cut ≡ owner) ⊎ Contains (map (λ below. cut ++ below) (longer rest)) owner → length cut ≤ length owner
      by (inl same) = subst (λ (x : Labels). length cut ≤ length x) same (omega arith)
      by (inr later) =
          let found = from_map (λ (below : Labels). cut ++ below) (longer rest) owner later in
          subst (λ (x : Labels). length cut ≤ length x) found.2 (omega (arith, length-append cut found.0))

    -- of a name at or below its zone cut no other owner decides
    decides_first : zone_cut zone whole ≡ Some cut → deciding zone whole ≡ by_first first_owner
    decides_first is =
        ap (λ (c : Option Labels). decided zone whole (shorter_decides zone c (dname_owner zone whole))) is
        ∙ ap (λ (o : Option Labels). decided zone whole (shorter_decides zone (Some cut) o)) owner_is
        ∙ by first_owner (find redirects_whole behind) refl
      where
        by : (first later : Option Labels) → find redirects_whole behind ≡ later → decided zone whole (shorter_decides zone (Some cut) (option_or first later)) ≡ by_first first
        by (Some owner) later is = refl
        by None None is = refl
        by None (Some owner) is =
            ap (λ (b : Bool). cond b (by_dname zone owner) (ByCut cut))
            (le-ltb (length owner) (length cut) (as_long owner (found_there redirects_whole behind owner is).0))

-- a zone cut that decides at a name is at or above it
pub cut_begins : (zone : Zone) (name cut : Labels) → deciding zone name ≡ ByCut cut → (zone_cut zone name ≡ Some cut) × Begins cut name
cut_begins zone name cut decides = (is, from_prefixes name cut (found_there cuts (prefixes name) cut is).0) where
  cuts : Labels → Bool
  cuts above = nat_lt (length zone.origin) (length above) && owns zone above types.Ns

  is : zone_cut zone name ≡ Some cut
  is = is_the_cut zone name types.A cut [] (zone_cut zone name) (dname_owner zone name) decides

-- a zone cut that decides at a name decides at each name below it
pub cut_stays : (zone : Zone) (name tail cut : Labels) → deciding zone name ≡ ByCut cut → deciding zone (name ++ tail) ≡ ByCut cut
cut_stays zone name tail cut decides =
    ap (deciding zone) (sym below)
    ∙ decides_first zone cut (rest.0 ++ tail) (ap (zone_cut zone) below ∙ found_above cuts name tail cut is)
    ∙ sym (decides_first zone cut rest.0 (ap (zone_cut zone) rest.1 ∙ is))
    ∙ ap (deciding zone) rest.1
    ∙ decides
  where
    cuts : Labels → Bool
    cuts above = nat_lt (length zone.origin) (length above) && owns zone above types.Ns

    is : zone_cut zone name ≡ Some cut
    is = (cut_begins zone name cut decides).0

    rest : Begins cut name
    rest = (cut_begins zone name cut decides).1

    below : cut ++ (rest.0 ++ tail) ≡ name ++ tail
    below = sym (append_assoc cut rest.0 tail) ∙ ap (λ (x : Labels). x ++ tail) rest.1
