-- From each state a walk goes on to an end: a step uses a rewrite, or leads to a zone with a longer origin for the same
-- name.
use Rattle.std.proofs.Common.{◌≡◌, ◌≢◌, ℕ, zero, suc, ◌+◌, ◌<◌, ◌≤◌, Bool, true, false, ◌&&◌, List, [], ◌∷◌, map, filter, length, slice_get, Contains, Option, Some, None, is_some, option_map, sym, refl, ap, ◌∙◌, subst, arith, length-append}
use Rattle.std.specs.Prelude.{nat_lt, ◌==◌, if◌then◌else◌}
use Rattle.std.specs.Option.{option_map_or, option_to_list}
use Rattle.std.specs.List.{AllByRecursion}
use Rattle.std.specs.declared.cmp.Ordering.{Ordering}
use Rattle.std.specs.declared.cmp.Ordering.TheVariants.{Less, Equal, Greater}
use Rattle.std.proofs.lemmas.Bool.{and_parts, ltb-true}
use Rattle.std.proofs.lemmas.Option.{slice_get-map}
use Rattle.dns_data.specs.Name.{Labels, name_eq, name_cmp}
use Rattle.dns_data.specs.Rdata.{has_type}
use Rattle.dns_data.specs.declared.rdata.Rdata.{Rdata}
use Rattle.dns_data.specs.declared.rdata.Rdata.TheVariants.{Ns}
use Rattle.dns_data.specs.declared.rr_type.RrType.{RrType}
use Rattle.dns_data.specs.declared.rr_type.RrType.TheVariants as types
use Rattle.dns_data.proofs.Membership.{none_in_nil, filter_has, map_has}
use Rattle.dns_data.proofs.NameFronts.{is_prefix_tells}
use Rattle.dns_data.proofs.Searches.{from_any, filter_map_has, found_there}
use Rattle.net_model.specs.declared.config.Config.{Config}
use Rattle.net_model.specs.declared.config.Zone.{Zone}
use Rattle.net_model.specs.declared.found.Found.{Found}
use Rattle.net_model.specs.declared.found.Found.TheVariants as found_as
use Rattle.net_model.specs.declared.walk.Hop.{Hop}
use Rattle.net_model.specs.declared.walk.Hop.TheVariants.{Refer, Rewrite}
use Rattle.net_model.specs.declared.walk.Leaf.TheVariants.{Limit, Overlong}
use Rattle.net_model.specs.declared.walk.State.{State}
use Rattle.net_model.specs.declared.walk.Walk.{Walk}
use Rattle.net_model.specs.Lookup.{ByCut, deciding, answered, found, zone_cut, dname_owner}
use Rattle.net_model.specs.Nearest.{nearest_of}
use Rattle.net_model.specs.Order.{put_in_order, in_order, beside}
use Rattle.net_model.specs.Prefix.{prefixes}
use Rattle.net_model.specs.Step.{Setting, Branch, Go, End, referred, servers_after, after_lookup, in_zone, next}
use Rattle.net_model.specs.Walk.{led_on, branched, walk_from}
use Rattle.net_model.specs.Zone.{is_of, owns, target_of, data_at, targets_at, ns_names}
use Rattle.net_model.proofs.Branches.{LooksUp, IsDelegated, cut_at, place_in, each_branch}
use Rattle.net_model.proofs.WalkEnds.{item}
use Rattle.net_model.proofs.StepBounds.{cut_refers, is_the_cut}
use Rattle.net_model.proofs.NearestZones.{nearest_tells}

-- ---- a referral is found at the zone cut

-- the cut of a referral is below the origin and owns an NS record, and the names are those of its name servers
pub record IsReferral (zone : Zone) (cut : Labels) (names : List Labels) : Type 0 where
  pub below : length zone.origin < length cut
  pub owner : owns zone cut types.Ns ≡ true
  pub names_are : names ≡ ns_names zone cut

-- where a zone gives a referral, its cut is below the origin and owns the NS records
pub referral_found : (zone : Zone) (name : Labels) (rtype : RrType) (cut : Labels) (names : List Labels) → found zone name rtype ≡ found_as.Referral cut names
    → IsReferral zone cut names
referral_found zone name rtype cut names e =
    let decides : deciding zone name ≡ ByCut cut = cut_refers zone name rtype cut names (deciding zone name) e in
    let is : zone_cut zone name ≡ Some cut = is_the_cut zone name rtype cut names (zone_cut zone name) (dname_owner zone name) decides in
    let passes = (found_there (λ above. nat_lt (length zone.origin) (length above) && owns zone above types.Ns) (prefixes name) cut is).1 in
    let parts = and_parts (nat_lt (length zone.origin) (length cut)) (owns zone cut types.Ns) passes in
    let same : found_as.Referral cut (ns_names zone cut) ≡ found_as.Referral cut names = sym (ap (answered zone name rtype) decides) ∙ e in
    record { below = ltb-true (length zone.origin) (length cut) parts.0; owner = parts.1; names_are = cc }

-- ---- each step uses a rewrite, or leads to a longer origin

-- how many labels the origin has of the zone in which the state's server looks its name up
abbrev pub origin_labels : Config → State → ℕ
origin_labels config state = option_map_or (λ zone. length zone.origin) (nearest_of config state.server state.name) 0

-- the origin of the zone in which a state's name is looked up has no more labels than the name
pub origin_within : (config : Config) (state : State) → origin_labels config state ≤ length state.name
origin_within config state = by (nearest_of config state.server state.name) refl where
  by : (zone : Option Zone) → nearest_of config state.server state.name ≡ zone → option_map_or (λ zone. length zone.origin) zone 0 ≤ length state.name
  by None e = omega arith
  by (Some zone) e =
      let begins = (nearest_tells config state.server state.name zone e).1 in
      omega (arith, ap length begins.1, length-append zone.origin begins.0)

-- a referral keeps the name and the rewrites used, and the origin gets longer; a rewrite is left, and is used
abbrev pub GoesDown : Setting → State → Branch → Type 0
GoesDown setting state (Go (Refer cut) to) =
    (to.name ≡ state.name) × (to.used ≡ state.used) × (origin_labels setting.config state < origin_labels setting.config to)
GoesDown setting state (Go (Rewrite place by_dname name) to) = (state.used < setting.rewrites) × (to.used ≡ state.used + 1)
GoesDown setting state (End hop leaf) = Unit {0}

referral_down : (setting : Setting) (rtype : RrType) (state : State) (zone below : Zone) (cut ns : Labels) (names : List Labels)
    → LooksUp setting rtype state zone (found_as.Referral cut names) → IsDelegated setting state (cut_at state zone cut ns) below
    → GoesDown setting state (Go (Refer (cut_at state zone cut ns)) (record state { server = ns; cut = length cut; zone = Some below.origin }))
referral_down setting rtype state zone below cut ns names looks delegated =
    let longer : length zone.origin < length cut = (referral_found zone state.name rtype cut names looks.is).below in
    let begins = is_prefix_tells cut below.origin delegated.within in
    let here : origin_labels setting.config state ≡ length zone.origin =
    ap (λ (z : Option Zone). option_map_or (λ zone. length zone.origin) z 0) looks.nearest in
    let there : option_map_or (λ zone. length zone.origin) (nearest_of setting.config ns state.name) 0 ≡ length below.origin =
    ap (λ (z : Option Zone). option_map_or (λ zone. length zone.origin) z 0) delegated.nearest in
    (refl, refl, omega (arith, longer, here, there, ap length begins.1, length-append cut begins.0))

-- each branch of a state goes down, if it goes on: a referral keeps the name and leads to a zone with a longer origin,
-- a rewrite uses one rewrite more
pub goes_down : (setting : Setting) (rtype : RrType) (state : State) → AllByRecursion (GoesDown setting state) (next setting rtype state)
goes_down setting rtype state =
    each_branch setting rtype state (GoesDown setting state) (λ leaf. tt) (λ cut leaf. tt)
    (λ zone below cut ns names looks delegated. referral_down setting rtype state zone below cut ns names looks delegated)
    (λ zone by_dname owner to server looks left has. (left, refl))

-- ---- each state has a branch

-- a list with an item has a first
abbrev HasFirst : {X : Type 0} → List X → Type 0
HasFirst {X = X} xs = (first : X) × (slice_get xs 0 ≡ Some first)

some_first : {X : Type 0} (xs : List X) → xs ≢ [] → HasFirst xs
some_first [] some = absurd (some refl)
some_first (x ∷ xs) some = (x, refl)

mapped_first : {X Y : Type 0} (f : X → Y) (xs : List X) → HasFirst xs → HasFirst (map f xs)
mapped_first f xs (x, is) = (f x, slice_get-map f xs 0 ∙ ap (option_map f) is)

-- an item put in order leaves a first
put_first : {X : Type 0} (cmp : X → X → Ordering) (item : X) (xs : List X) → HasFirst (put_in_order cmp item xs)
put_first cmp item [] = (item, refl)
put_first cmp item (first ∷ rest) = by (cmp item first) where
  by : (o : Ordering) → HasFirst (beside item first rest (put_in_order cmp item rest) o)
  by Less = (item, refl)
  by Equal = (first, refl)
  by Greater = (first, refl)

ordered_first : {X : Type 0} (cmp : X → X → Ordering) (xs : List X) (x : X) → Contains xs x → HasFirst (in_order cmp xs)
ordered_first cmp [] x has = absurd (none_in_nil x has)
ordered_first cmp (first ∷ rest) x has = put_first cmp first (in_order cmp rest)

-- an NS record's data hold a name server
ns_data : (rdata : Rdata) → has_type types.Ns rdata ≡ true → (target : Labels) × (target_of rdata ≡ Some target)
ns_data (Ns target) is = (target, refl)
ns_data _ is = cc

-- so a cut has a name server
cut_first : (zone : Zone) (cut : Labels) → owns zone cut types.Ns ≡ true → HasFirst (ns_names zone cut)
cut_first zone cut owner =
    let found = from_any (is_of cut types.Ns) zone.rrs owner in
    let target = ns_data found.0.rdata (and_parts (name_eq found.0.owner cut) (has_type types.Ns found.0.rdata) found.2).1 in
    ordered_first name_cmp (targets_at zone cut types.Ns) target.0
    (filter_map_has target_of (data_at zone cut types.Ns) found.0.rdata target.0
    (map_has (λ rr. rr.rdata) (filter (is_of cut types.Ns) zone.rrs) found.0 (filter_has (is_of cut types.Ns) zone.rrs found.0 found.1 found.2)) target.1)

module _ (setting : Setting) (rtype : RrType) (tops : setting.config.tops ≢ []) where
  servers_first : (state : State) (to : Labels) → HasFirst (servers_after setting.config state to)
  servers_first state to = by (is_some (nearest_of setting.config state.server to)) where
    by : (b : Bool) → HasFirst (if b then state.server ∷ [] else setting.config.tops)
    by true = (state.server, refl)
    by false = some_first setting.config.tops tops

  either_first : {X : Type 0} (b : Bool) (one other : List X) → HasFirst one → HasFirst other → HasFirst (if b then one else other)
  either_first true one other a c = a
  either_first false one other a c = c

  after_first : (state : State) (zone : Zone) (finds : Found) → found zone state.name rtype ≡ finds → HasFirst (after_lookup setting state zone.origin finds)
  after_first state zone (found_as.Answer rdata) e = (_, refl)
  after_first state zone found_as.NoData e = (_, refl)
  after_first state zone found_as.NxDomain e = (_, refl)
  after_first state zone (found_as.Referral cut names) e =
      let is = referral_found zone state.name rtype cut names e in
      mapped_first (λ (ns : Labels). referred setting state (cut_at state zone cut ns)) names
      (subst (λ (all : List Labels). HasFirst all) (sym is.names_are) (cut_first zone cut is.owner))
  after_first state zone (found_as.Rewrite by_dname owner to) e =
      either_first (nat_lt state.used setting.rewrites) _ (End None (Limit (place_in state zone owner)) ∷ [])
      (mapped_first _ (servers_after setting.config state to) (servers_first state to)) (_, refl)
  after_first state zone (found_as.TooLong owner) e =
      either_first (nat_lt state.used setting.rewrites) (End None (Overlong (place_in state zone owner)) ∷ []) (End None (Limit (place_in state zone owner)) ∷ [])
      (_, refl) (_, refl)

  next_first : (state : State) → HasFirst (next setting rtype state)
  next_first state = by (nearest_of setting.config state.server state.name) where
    by : (zone : Option Zone) → HasFirst (in_zone setting rtype state zone)
    by None = (_, refl)
    by (Some zone) = after_first state zone (found zone state.name rtype) refl

  -- ---- so from each state a walk goes on

  -- some walk begins at the state
  abbrev Ends : State → Type 0
  Ends state = (numbers : List ℕ) × (walk : Walk) × (walk_from setting rtype numbers state ≡ Some walk)

  ends_by_step : (state : State) → ((hop : Hop) (to : State) → GoesDown setting state (Go hop to) → Ends to) → Ends state
  ends_by_step state goes = let first = next_first state in by first.0 first.1 where
    by : (branch : Branch) → slice_get (next setting rtype state) 0 ≡ Some branch → Ends state
    by (End hop leaf) is =
        (0 ∷ [], record { states = state ∷ []; hops = option_to_list hop; leaf = leaf }, ap (branched state true (walk_from setting rtype [])) is)
    by (Go hop to) is =
        let later = goes hop to (item (GoesDown setting state) (next setting rtype state) 0 (Go hop to) (goes_down setting rtype state) is) in (
          0 ∷ later.0,
          led_on state hop later.1,
          ap (branched state (length later.0 == 0) (walk_from setting rtype later.0)) is ∙ ap (option_map (led_on state hop)) later.2,
        )

  ends_within : (left : ℕ) → ((to : State) → to.used ≤ setting.rewrites → setting.rewrites + 1 ≤ left + to.used → Ends to)
      → (room : ℕ) (state : State) → setting.rewrites ≤ left + state.used → length state.name ≤ room + origin_labels setting.config state → Ends state
  ends_within left rewritten zero state bound few = ends_by_step state (λ hop to down. by hop to down) where
    by : (hop : Hop) (to : State) → GoesDown setting state (Go hop to) → Ends to
    by (Refer cut) to (name, used, longer) = absurd (omega (arith, ap length name, longer, origin_within setting.config to, few))
    by (Rewrite place by_dname name) to (left_over, used) = rewritten to (omega arith) (omega arith)
  ends_within left rewritten (suc room) state bound few = ends_by_step state (λ hop to down. by hop to down (ends_within left rewritten room to)) where
    by : (hop : Hop) (to : State) → GoesDown setting state (Go hop to)
        → (setting.rewrites ≤ left + to.used → length to.name ≤ room + origin_labels setting.config to → Ends to) → Ends to
    by (Refer cut) to (name, used, longer) rest = rest (omega arith) (omega (arith, ap length name, longer, few))
    by (Rewrite place by_dname name) to (left_over, used) rest = rewritten to (omega arith) (omega arith)

  ends_left : (left : ℕ) (state : State) → setting.rewrites ≤ left + state.used → Ends state
  ends_left zero state bound =
      ends_within zero (λ to most least. absurd (omega arith)) (length state.name) state bound (omega arith)
  ends_left (suc left) state bound =
      ends_within (suc left) (λ to most least. ends_left left to (omega arith)) (length state.name) state bound (omega arith)

  -- from each state a walk goes on to an end
  pub ends_somewhere : (state : State) → (numbers : List ℕ) × (walk : Walk) × (walk_from setting rtype numbers state ≡ Some walk)
  ends_somewhere state = ends_left setting.rewrites state (omega arith)
