-- No origin stands below a name where one that doesn't stand behind it is followed by one that is past the name and all
-- names below it.
use Rattle.std.proofs.Common.{◌≡◌, ℕ, ◌+◌, ◌<◌, ◌≤◌, true, false, ◌⊎◌, List, [], length, get_or, Option, Some, None, Ordering, Less, Equal, Greater, is_lt, is_gt, refl, sym, ap, ◌∙◌, subst, inl, inr, true≢false, arith}
use Rattle.std.specs.Prelude.{Contains}
use Rattle.std.specs.List.Sorted.{IsStrictlySortedBy}
use Rattle.std.proofs.lemmas.Bool.{cases_lt}
use Rattle.std.proofs.lemmas.List.{get_or_default, get_or-map, length-map}
use Rattle.dns_data.specs.Name.{Labels, is_prefix, name_cmp}
use Rattle.dns_data.proofs.NameFronts.{is_prefix_tells, is_prefix_told}
use Rattle.dns_data.proofs.NameOrder.{Before, UpTo, before_later, before_up_to, between, names_total, prefix_up_to, up_to_before}
use Rattle.dns_data.proofs.Names.{same_names}
use Rattle.dns_data.proofs.OrderedLists.{never_before_itself}
use Rattle.net_model.specs.Nearest.{held_zone}
use Rattle.net_model.specs.declared.config.Config.{Config}
use Rattle.net_model.specs.declared.config.Zone.{Zone}
use Rattle.net_model.specs.declared.deps.Deps.{Deps}
use Rattle.straight_walks.specs.Regions.{AreRegions, IsPastName, region_origins}
use Rattle.straight_walks.specs.Straight.{NoOriginBelow}
use Rattle.straight_walks.specs.declared.region.Region.{Region}
use Rattle.straight_walks.proofs.NearestRegions.{has_region, origin_of}

-- what stands before a name doesn't stand behind it
before_is_up_to : (a b : Labels) → is_lt (name_cmp a b) ≡ true → UpTo a b
before_is_up_to a b less = by (name_cmp a b) less where
  by : (o : Ordering) → is_lt o ≡ true → is_gt o ≡ false
  by Less e = refl
  by Equal e = refl
  by Greater e = absurd (true≢false (sym e))

-- ---- a name below another

module _ (name longer : Labels) (below : is_prefix name longer ≡ true) (more : length name < length longer) where
  begins : UpTo name longer
  begins = let front = is_prefix_tells name longer below in subst (UpTo name) front.1 (prefix_up_to name front.0)

  -- stands behind it
  never_before : Before longer name → ⊥
  never_before less = never_before_itself name_cmp names_total name (up_to_before name longer name begins less)

  never_up_to : UpTo longer name → ⊥
  never_up_to up = by (name_cmp longer name) refl up where
    by : (o : Ordering) → name_cmp longer name ≡ o → is_gt o ≡ false → ⊥
    by Less e h = never_before e
    by Equal e h = omega (arith, more, ap (λ (n : Labels). length n) (same_names longer name e))
    by Greater e h = true≢false h

  -- a name that is past the shorter one doesn't stand at the longer one or before it
  never_behind : (past : Labels) → IsPastName name past → UpTo past longer → ⊥
  never_behind past is up =
      let front = is_prefix_tells name longer below in
      true≢false (sym (is_prefix_told name past (between name past front.0 (before_is_up_to name past is.behind) (subst (UpTo past) (sym front.1) up))) ∙ is.not_below)

-- ---- among names in order

module _ (names : List Labels) (sorted : IsStrictlySortedBy name_cmp names) (name : Labels) (place : ℕ) (within : place < length names) (up_to : UpTo (get_or names place []) name)
    (past : place + 1 < length names → IsPastName name (get_or names (place + 1) [])) where
  -- none is below the name, where the one at the place isn't behind it and the next one is past those below it
  none_among : (longer : Labels) → Contains names longer → is_prefix name longer ≡ true → length name < length longer → ⊥
  none_among longer (at, inside, is) below more = by (cases_lt place at) where
    there : get_or names at [] ≡ longer
    there = get_or_default names at [] longer inside ∙ is

    early : (at < place) ⊎ (place ≤ at) → at ≤ place → ⊥
    early (inl lower) low =
        never_before name longer below more
        (before_up_to longer (get_or names place []) name
        (subst (λ (n : Labels). Before n (get_or names place [])) there (before_later names sorted at place [] lower within)) up_to)
    early (inr high) low =
        let same : at ≡ place = omega (arith, low, high) in
        never_up_to name longer below more (subst (λ (n : Labels). UpTo n name) (ap (λ (n : ℕ). get_or names n []) (sym same) ∙ there) up_to)

    late : (place + 1 < at) ⊎ (at ≤ place + 1) → place < at → ⊥
    late (inl further) high =
        never_behind name longer below more (get_or names (place + 1) []) (past (omega (arith, further, inside)))
        (ap is_gt (subst (Before (get_or names (place + 1) [])) there (before_later names sorted (place + 1) at [] further inside)))
    late (inr next) high =
        let same : at ≡ place + 1 = omega (arith, next, high) in
        let it : IsPastName name longer =
        subst (IsPastName name) (ap (λ (n : ℕ). get_or names n []) (sym same) ∙ there) (past (omega (arith, same, inside))) in
        true≢false (sym below ∙ it.not_below)

    by : (place < at) ⊎ (at ≤ place) → ⊥
    by (inl high) = late (cases_lt (place + 1) at) high
    by (inr low) = early (cases_lt at place) low

-- ---- among the origins of regions

-- the origin of the region at a place is the name there
origin_at : (regions : List Region) (place : ℕ) (region : Region) → place < length regions → region ≡ get_or regions place region
    → get_or (region_origins regions) place [] ≡ origin_of region
origin_at regions place region within is = get_or-map origin_of regions place region [] within ∙ ap origin_of (sym is)

module _ (regions : List Region) (name : Labels) (place : ℕ) where
  -- the next region, if there is one, is past the names below
  abbrev pub IsNextPast : Type 0
  IsNextPast = place + 1 < length (region_origins regions) → IsPastName name (get_or (region_origins regions) (place + 1) [])

  -- if the origin of the next region stands behind the name and all names below it, the next region is past them
  pub next_past : (next : Region) → place + 1 < length regions → next ≡ get_or regions (place + 1) next → IsPastName name (origin_of next) → IsNextPast
  next_past next within is past _ = subst (IsPastName name) (sym (origin_at regions (place + 1) next within is)) past

  -- behind the last region nothing is left that must be past the names below
  pub none_next : length regions ≤ place + 1 → IsNextPast
  none_next short within = absurd (omega (arith, short, within, length-map regions origin_of))

-- no server has a zone with an origin below the name, where the region at a place doesn't stand behind it and the next one
-- is past the names below it
pub none_below : (config : Config) (deps : Deps) (regions : List Region) → AreRegions config deps regions → (name : Labels) (place : ℕ) (region : Region)
    → place < length regions → region ≡ get_or regions place region → UpTo (origin_of region) name → IsNextPast regions name place → NoOriginBelow config name
none_below config deps regions are name place region within is up_to past server longer below more = by (held_zone config server longer) refl where
  by : (held : Option Zone) → held_zone config server longer ≡ held → held ≡ None
  by None none = refl
  by (Some zone) held =
      absurd (none_among (region_origins regions) are.ordered name place (omega (arith, within, length-map regions origin_of))
      (subst (λ (n : Labels). UpTo n name) (sym (origin_at regions place region within is)) up_to) past
      longer (has_region config deps regions are server longer zone held) below more)
