-- What each step to a state does: it uses a rewrite more, or the zone cut gets longer.
use Rattle.std.proofs.Common.{◌≡◌, ℕ, ◌+◌, ◌-◌, ◌*◌, ◌<◌, ◌≤◌, Bool, true, false, cond, List, [], ◌∷◌, map, length, Option, Some, None, refl, ap, subst, arith, length-append, nat_lt, nat_le}
use Rattle.std.specs.Prelude.{◌&&◌, not, if◌then◌else◌}
use Rattle.std.specs.List.{AllByRecursion}
use Rattle.std.proofs.lemmas.Bool.{and_parts, ltb-true}
use Rattle.dns_data.specs.Name.{Labels, is_prefix, wire_octets, swap}
use Rattle.dns_data.specs.RrType.{type_eq}
use Rattle.dns_data.specs.declared.rdata.Rdata.{Rdata}
use Rattle.dns_data.specs.declared.rr_type.RrType.{RrType}
use Rattle.dns_data.specs.declared.rr_type.RrType.TheVariants as types
use Rattle.dns_data.proofs.Searches.{found_there}
use Rattle.net_model.specs.declared.config.Zone.{Zone}
use Rattle.net_model.specs.declared.found.Found.{Found}
use Rattle.net_model.specs.declared.found.Found.TheVariants as found_as
use Rattle.net_model.specs.declared.place.Cut.{Cut}
use Rattle.net_model.specs.declared.place.Place.{Place}
use Rattle.net_model.specs.declared.walk.Hop.{Hop}
use Rattle.net_model.specs.declared.walk.Hop.TheVariants.{Refer, Rewrite}
use Rattle.net_model.specs.declared.walk.State.{State}
use Rattle.net_model.specs.Lookup.{found, answered, deciding, decided, shorter_decides, zone_cut, dname_owner, redirected, aliased, answer_of, synthesized, source_of_synthesis, closest_encloser, by_dname, first_name, Deciding, ByCut, ByRedirection, ByRecords, ByNothing}
use Rattle.net_model.specs.Nearest.{nearest_of, is_configured}
use Rattle.net_model.specs.Order.{in_order}
use Rattle.net_model.specs.Prefix.{prefixes}
use Rattle.net_model.specs.Step.{Setting, Branch, Go, End, arrived, delegated, referred, may_follow, servers_after, after_lookup, in_zone, next}
use Rattle.net_model.specs.Zone.{exists_in, owns, targets_at, data_at, data_cmp}
use Rattle.dns_data.proofs.NameFronts.{Begins, is_prefix_tells}
use Rattle.net_model.proofs.Prefixes.{from_prefixes}

-- what bounds the states still to come: each next one uses a rewrite more or has a longer zone cut
abbrev pub left_of : Setting → State → ℕ
left_of setting state = (setting.rewrites - state.used) * 128 + (127 - state.cut)

-- the zone cut that led to the state isn't below the zone in which its name is looked up
abbrev pub IsNear : Setting → State → Type 0
IsNear setting state = (zone : Zone) → nearest_of setting.config state.server state.name ≡ Some zone → state.cut ≤ length zone.origin

-- the labels of the zone cut of a referral
abbrev pub cut_labels : Hop → ℕ
cut_labels (Refer cut) = length cut.cut
cut_labels (Rewrite place by_dname to) = 0

-- ---- a referral's zone cut is below the origin

module _ (zone : Zone) (name : Labels) (rtype : RrType) (cut : Labels) (names : List Labels) where
  answer_refers : (all : List Rdata) → answer_of all ≡ found_as.Referral cut names → ⊥
  answer_refers [] e = cc
  answer_refers (first ∷ rest) e = cc

  alias_refers : (owner : Labels) (target : Option Labels) → aliased zone owner rtype target ≡ found_as.Referral cut names → ⊥
  alias_refers owner (Some target) e = cc
  alias_refers owner None e = answer_refers (in_order data_cmp (data_at zone owner rtype)) e

  redirection_refers : (owner : Labels) (target : Option Labels) → redirected name owner target ≡ found_as.Referral cut names → ⊥
  redirection_refers owner None e = cc
  redirection_refers owner (Some target) e = by (nat_le (wire_octets (swap name owner target)) 255) e where
    by : (b : Bool) → cond b (found_as.Rewrite true owner (swap name owner target)) (found_as.TooLong owner) ≡ found_as.Referral cut names → ⊥
    by true e = cc
    by false e = cc

  -- only a zone cut answers a referral
  pub cut_refers : (what : Deciding) → answered zone name rtype what ≡ found_as.Referral cut names → what ≡ ByCut cut
  cut_refers (ByCut other) e = let same : other ≡ cut = cc in ap (λ (x : Labels). ByCut x) same
  cut_refers (ByRedirection owner target) e = absurd (redirection_refers owner target e)
  cut_refers (ByRecords owner) e = absurd (alias_refers owner (if type_eq rtype types.Cname then None else first_name (targets_at zone owner types.Cname)) e)
  cut_refers ByNothing e = cc

  source_cuts : (encloser : Option Labels) → synthesized zone encloser ≡ ByCut cut → ⊥
  source_cuts None e = cc
  source_cuts (Some encloser) e = by (exists_in zone (source_of_synthesis encloser)) e where
    by : (b : Bool) → cond b (ByRecords (source_of_synthesis encloser)) ByNothing ≡ ByCut cut → ⊥
    by true e = cc
    by false e = cc

  -- if a zone cut decides at a name, it is the name's zone cut
  pub is_the_cut : (found_cut owner : Option Labels) → decided zone name (shorter_decides zone found_cut owner) ≡ ByCut cut → found_cut ≡ Some cut
  is_the_cut (Some other) None e = let same : other ≡ cut = cc in ap (λ (x : Labels). Some x) same
  is_the_cut (Some other) (Some owner) e = by (nat_lt (length owner) (length other)) e where
    by : (b : Bool) → cond b (by_dname zone owner) (ByCut other) ≡ ByCut cut → Some other ≡ Some cut
    by true e = cc
    by false e = let same : other ≡ cut = cc in ap (λ (x : Labels). Some x) same
  is_the_cut None (Some owner) e = cc
  is_the_cut None None e = by (exists_in zone name) e where
    by : (b : Bool) → cond b (ByRecords name) (synthesized zone (closest_encloser zone name)) ≡ ByCut cut → None ≡ Some cut
    by true e = cc
    by false e = absurd (source_cuts (closest_encloser zone name) e)

  -- so it has more labels than the origin, and begins the name
  refers_below : found zone name rtype ≡ found_as.Referral cut names → (length zone.origin < length cut) × Begins cut name
  refers_below e =
      let is : zone_cut zone name ≡ Some cut = is_the_cut (zone_cut zone name) (dname_owner zone name) (cut_refers (deciding zone name) e) in
      let both = found_there (λ (above : Labels). nat_lt (length zone.origin) (length above) && owns zone above types.Ns) (prefixes name) cut is in (
        ltb-true (length zone.origin) (length cut) (and_parts (nat_lt (length zone.origin) (length cut)) (owns zone cut types.Ns) both.1).0,
        from_prefixes name cut both.0,
      )

-- ---- one step

-- a step by a referral keeps the rewrites used and the name, and has a longer zone cut; one by a rewrite uses one more
abbrev pub Advances : Setting → State → Hop → State → Type 0
Advances setting state (Refer cut) to = (to.used ≡ state.used) × (state.cut < to.cut) × (to.name ≡ state.name)
Advances setting state (Rewrite place by_dname name) to = (to.used ≡ state.used + 1) × (state.used < setting.rewrites)

-- the hop leads from the one state to the other, which has a longer zone cut or has used one rewrite more
pub record StepsOn (setting : Setting) (state : State) (hop : Hop) (to : State) : Type 0 where
  pub near : IsNear setting to
  pub within : to.cut ≤ length to.name
  pub labels : to.cut ≡ cut_labels hop
  pub advances : Advances setting state hop to

-- the branch steps on, or ends
abbrev pub BranchStepsOn : Setting → State → Branch → Type 0
BranchStepsOn setting state (Go hop to) = StepsOn setting state hop to
BranchStepsOn setting state (End hop leaf) = Unit {0}

-- of two branches one is chosen
one_of_two : (P : Branch → Type 0) (b : Bool) (one other : Branch) → (b ≡ true → P one) → (b ≡ false → P other) → P (cond b one other)
one_of_two P true one other holds fails = holds refl
one_of_two P false one other holds fails = fails refl

all_of_two : (P : Branch → Type 0) (b : Bool) (one other : List Branch) → (b ≡ true → AllByRecursion P one) → AllByRecursion P other → AllByRecursion P (cond b one other)
all_of_two P true one other holds fails = holds refl
all_of_two P false one other holds fails = fails

module _ (setting : Setting) (state : State) where
  delegated_steps : (cut : Cut) (zone : Option Zone) → nearest_of setting.config cut.ns state.name ≡ zone → state.cut < length cut.cut
      → length cut.cut ≤ length state.name → BranchStepsOn setting state (delegated state cut zone)
  delegated_steps cut None is longer within = tt
  delegated_steps cut (Some zone) is longer within =
      one_of_two (BranchStepsOn setting state) (is_prefix cut.cut zone.origin) _ _
      (λ inside. record {
        near = λ other nearest.
            let same : zone ≡ other = cc in
            let begins = is_prefix_tells cut.cut zone.origin inside in
            subst (λ (z : Zone). length cut.cut ≤ length z.origin) same
            (omega (arith, length-append cut.cut begins.0, ap (λ (x : Labels). length x) begins.1));
        within = within;
        labels = refl;
        advances = (refl, longer, refl);
      })
      (λ outside. tt)

  referred_steps : (cut : Cut) → state.cut < length cut.cut → length cut.cut ≤ length state.name → BranchStepsOn setting state (referred setting state cut)
  referred_steps cut longer within =
      one_of_two (BranchStepsOn setting state) (not (is_configured setting.config cut.ns)) _ _ (λ h. tt)
      (λ h. one_of_two (BranchStepsOn setting state) (not (may_follow setting.config cut setting.followed)) _ _ (λ g. tt)
      (λ g. delegated_steps cut (nearest_of setting.config cut.ns state.name) refl longer within))

  all_referred_step : (origin cut : Labels) (names : List Labels) → state.cut < length cut → length cut ≤ length state.name
      → AllByRecursion (BranchStepsOn setting state) (map (λ ns. referred setting state (record { server = state.server; zone = origin; cut = cut; ns = ns })) names)
  all_referred_step origin cut [] longer within = tt
  all_referred_step origin cut (ns ∷ names) longer within =
      (referred_steps (record { server = state.server; zone = origin; cut = cut; ns = ns }) longer within, all_referred_step origin cut names longer within)

  all_rewritten_step : (place : Place) (by_dname : Bool) (to : Labels) (servers : List Labels) → state.used < setting.rewrites
      → AllByRecursion (BranchStepsOn setting state) (map (λ server. Go (Rewrite place by_dname to)
      (arrived setting.config to (state.carried && by_dname) (state.used + 1) (Some place) server)) servers)
  all_rewritten_step place by_dname to [] left = tt
  all_rewritten_step place by_dname to (server ∷ servers) left = (
    record { near = λ zone nearest. omega arith; within = omega arith; labels = refl; advances = (refl, left) },
    all_rewritten_step place by_dname to servers left,
  )

  after_steps : (origin : Labels) (what : Found) → ((cut : Labels) (names : List Labels) → what ≡ found_as.Referral cut names → (state.cut < length cut) × (length cut ≤ length state.name))
      → AllByRecursion (BranchStepsOn setting state) (after_lookup setting state origin what)
  after_steps origin (found_as.Answer rdata) longer = (tt, tt)
  after_steps origin found_as.NoData longer = (tt, tt)
  after_steps origin found_as.NxDomain longer = (tt, tt)
  after_steps origin (found_as.Referral cut names) longer = all_referred_step origin cut names (longer cut names refl).0 (longer cut names refl).1
  after_steps origin (found_as.Rewrite by_dname owner to) longer =
      all_of_two (BranchStepsOn setting state) (nat_lt state.used setting.rewrites) _ _
      (λ left. all_rewritten_step _ by_dname to (servers_after setting.config state to) (ltb-true state.used setting.rewrites left)) (tt, tt)
  after_steps origin (found_as.TooLong owner) longer =
      all_of_two (BranchStepsOn setting state) (nat_lt state.used setting.rewrites) _ _ (λ left. (tt, tt)) (tt, tt)

  -- each branch of a state steps on or ends
  pub next_steps : (rtype : RrType) → IsNear setting state → AllByRecursion (BranchStepsOn setting state) (next setting rtype state)
  next_steps rtype near = by (nearest_of setting.config state.server state.name) refl where
    by : (zone : Option Zone) → nearest_of setting.config state.server state.name ≡ zone → AllByRecursion (BranchStepsOn setting state) (in_zone setting rtype state zone)
    by None is = (tt, tt)
    by (Some zone) is =
        after_steps zone.origin (found zone state.name rtype) (λ cut names e.
        let above = near zone is in
        let below = refers_below zone state.name rtype cut names e in
        let begins = below.1 in (
          omega (arith, below.0),
          omega (arith, length-append cut begins.0, ap (λ (x : Labels). length x) begins.1),
        ))

-- behind a step less is left, in rewrites and in labels by which a zone cut may get longer
pub less_left : (setting : Setting) (state : State) (hop : Hop) (to : State) → StepsOn setting state hop to → state.cut ≤ 127 → to.cut ≤ 127
    → left_of setting to < left_of setting state
less_left setting state (Refer cut) to steps short also =
    let used : to.used ≡ state.used = steps.advances.0 in
    let longer : state.cut < to.cut = steps.advances.1 in
    omega (arith, used, longer, ap (λ (n : ℕ). (setting.rewrites - n) * 128) used)
less_left setting state (Rewrite place by_dname name) to steps short also =
    let used : to.used ≡ state.used + 1 = steps.advances.0 in
    let left : state.used < setting.rewrites = steps.advances.1 in
    omega (arith, used, left, ap (λ (n : ℕ). (setting.rewrites - n) * 128) used)
