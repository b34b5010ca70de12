-- Walks with all types but CNAME go alike: the type matters only where a walk ends in what a zone tells.
use Rattle.std.proofs.Common.{◌≡◌, ℕ, suc, ◌-◌, Bool, true, false, List, [], ◌∷◌, ◌++◌, length, map, filter, slice_get, Option, Some, None, cond, is_some, option_map, refl, sym, ap, ◌∙◌, true≢false, arith}
use Rattle.std.proofs.Math.Path.{fun_ext}
use Rattle.std.proofs.lemmas.Option.{slice_get-map}
use Rattle.std.proofs.lemmas.Simd.{map-map}
use Rattle.std.specs.Prelude.{◌==◌, ◌+◌, ◌&&◌, not, nat_le, nat_lt, option_and_then, if◌then◌else◌}
use Rattle.std.specs.List.{flat_map}
use Rattle.std.specs.Option.{option_map_or}
use Rattle.dns_data.specs.Name.{Labels, is_prefix, swap, wire_octets}
use Rattle.dns_data.specs.RrType.{type_eq}
use Rattle.dns_data.specs.declared.rdata.Rdata.{Rdata}
use Rattle.dns_data.specs.declared.rr_type.RrType.{RrType}
use Rattle.dns_data.specs.declared.rr_type.RrType.TheVariants as rr_types
use Rattle.net_model.specs.declared.config.Zone.{Zone}
use Rattle.net_model.specs.declared.found.Found.{Found}
use Rattle.net_model.specs.declared.found.Found.TheVariants as found_as
use Rattle.net_model.specs.declared.place.Cut.{Cut}
use Rattle.net_model.specs.declared.place.Place.{Place}
use Rattle.net_model.specs.declared.walk.Hop.{Hop}
use Rattle.net_model.specs.declared.walk.Hop.TheVariants.{Refer, Rewrite}
use Rattle.net_model.specs.declared.walk.Leaf.{Leaf}
use Rattle.net_model.specs.declared.walk.Leaf.TheVariants.{Lame, Limit, NoAddress, NoData, Outside, Overlong, Unhosted}
use Rattle.net_model.specs.declared.walk.State.{State}
use Rattle.net_model.specs.declared.walk.Walk.{Walk}
use Rattle.net_model.specs.Lookup.{Deciding, ByCut, ByRedirection, ByRecords, ByNothing, aliased, answer_of, answered, at_name, deciding, first_name}
use Rattle.net_model.specs.Nearest.{is_configured, nearest_of}
use Rattle.net_model.specs.Order.{in_order}
use Rattle.net_model.specs.Shown.{is_authoritative}
use Rattle.net_model.specs.Step.{Setting, Branch, Go, End, after_lookup, arrived, delegated, in_zone, may_follow, next, referred, servers_after, start}
use Rattle.net_model.specs.Walk.{branched, led_on, walk_along, walk_from}
use Rattle.net_model.specs.Zone.{data_at, data_cmp, ns_names, targets_at}
use Rattle.net_model.proofs.Branches.{cut_at}
use Rattle.net_model.proofs.Leads.{first_state}
use Rattle.plain_resolver.specs.FromServer.{AreAsked, asked_at}
use Rattle.plain_resolver.specs.WalkEnds.{last_state, zone_ends_at, zone_ends_of}
use Rattle.alias_ends.specs.Aliases.{zone_leaves}
use Rattle.alias_ends.specs.Known.{leaf_at, leaf_in, leaf_of}

-- ---- one step

-- the branch with another leaf, if it ends in what a zone tells
abbrev branch_with : Leaf → Branch → Branch
branch_with told (Go hop to) = Go hop to
branch_with told (End hop leaf) = End hop (if is_authoritative leaf then told else leaf)

module _ (setting : Setting) (state : State) where
  module _ (told : Leaf) where
    all_stay : {X : Type 0} (f : X → Branch) → ((x : X) → f x ≡ branch_with told (f x)) → (xs : List X) → map f xs ≡ map (branch_with told) (map f xs)
    all_stay f one [] = refl
    all_stay f one (x ∷ xs) = λ i. one x i ∷ all_stay f one xs i

    delegated_stays : (cut : Cut) (below : Option Zone) → delegated state cut below ≡ branch_with told (delegated state cut below)
    delegated_stays cut None = refl
    delegated_stays cut (Some below) = by (is_prefix cut.cut below.origin) where
      by : (b : Bool)
          → (if b then Go (Refer cut) (record state { server = cut.ns; cut = length cut.cut; zone = Some below.origin }) else End (Some (Refer cut)) (Lame cut.ns))
          ≡ branch_with told (if b then Go (Refer cut) (record state { server = cut.ns; cut = length cut.cut; zone = Some below.origin }) else End (Some (Refer cut)) (Lame cut.ns))
      by true = refl
      by false = refl

    referred_stays : (cut : Cut) → referred setting state cut ≡ branch_with told (referred setting state cut)
    referred_stays cut =
        by (is_configured setting.config cut.ns) (may_follow setting.config cut setting.followed)
        (delegated state cut (nearest_of setting.config cut.ns state.name)) (delegated_stays cut (nearest_of setting.config cut.ns state.name))
      where
        by : (configured follow : Bool) (on : Branch) → on ≡ branch_with told on
            → (if not configured then End (Some (Refer cut)) (Unhosted cut.ns) else (if not follow then End (Some (Refer cut)) (NoAddress cut.ns) else on))
            ≡ branch_with told (if not configured then End (Some (Refer cut)) (Unhosted cut.ns) else (if not follow then End (Some (Refer cut)) (NoAddress cut.ns) else on))
        by true true on is = is
        by true false on is = refl
        by false follow on is = refl

    rewrite_stays : (origin : Labels) (by_dname : Bool) (owner to : Labels)
        → after_lookup setting state origin (found_as.Rewrite by_dname owner to) ≡ map (branch_with told) (after_lookup setting state origin (found_as.Rewrite by_dname owner to))
    rewrite_stays origin by_dname owner to = by (nat_lt state.used setting.rewrites) where
      place : Place
      place = record { server = state.server; zone = origin; owner = owner }

      on : Labels → Branch
      on server = Go (Rewrite place by_dname to) (arrived setting.config to (state.carried && by_dname) (state.used + 1) (Some place) server)

      by : (left : Bool) → (if left then map on (servers_after setting.config state to) else End None (Limit place) ∷ [])
          ≡ map (branch_with told) (if left then map on (servers_after setting.config state to) else End None (Limit place) ∷ [])
      by true = all_stay on (λ server. refl) (servers_after setting.config state to)
      by false = refl

    too_long_stays : (origin owner : Labels)
        → after_lookup setting state origin (found_as.TooLong owner) ≡ map (branch_with told) (after_lookup setting state origin (found_as.TooLong owner))
    too_long_stays origin owner = by (nat_lt state.used setting.rewrites) where
      place : Place
      place = record { server = state.server; zone = origin; owner = owner }

      by : (left : Bool) → (if left then End None (Overlong place) ∷ [] else End None (Limit place) ∷ [])
          ≡ map (branch_with told) (if left then End None (Overlong place) ∷ [] else End None (Limit place) ∷ [])
      by true = refl
      by false = refl

  data_alike : (origin : Labels) (here there : List Rdata)
      → after_lookup setting state origin (answer_of there) ≡ map (branch_with (leaf_of (answer_of there))) (after_lookup setting state origin (answer_of here))
  data_alike origin [] [] = refl
  data_alike origin [] (y ∷ ys) = refl
  data_alike origin (x ∷ xs) [] = refl
  data_alike origin (x ∷ xs) (y ∷ ys) = refl

  module _ (t : RrType) (other : type_eq t rr_types.Cname ≡ false) where
    module _ (zone : Zone) where
      by_records : (owner : Labels) → after_lookup setting state zone.origin (at_name zone owner t)
          ≡ map (branch_with (leaf_of (at_name zone owner t))) (after_lookup setting state zone.origin (at_name zone owner rr_types.A))
      by_records owner = by (type_eq t rr_types.Cname) other (first_name (targets_at zone owner rr_types.Cname)) where
        by : (b : Bool) → b ≡ false → (target : Option Labels) → after_lookup setting state zone.origin (aliased zone owner t (if b then None else target))
            ≡ map (branch_with (leaf_of (aliased zone owner t (if b then None else target)))) (after_lookup setting state zone.origin (aliased zone owner rr_types.A target))
        by true e target = absurd (true≢false e)
        by false e None = data_alike zone.origin (in_order data_cmp (data_at zone owner rr_types.A)) (in_order data_cmp (data_at zone owner t))
        by false e (Some target) = rewrite_stays NoData zone.origin false owner target

      of : (what : Deciding) → after_lookup setting state zone.origin (answered zone state.name t what)
          ≡ map (branch_with (leaf_of (answered zone state.name t what))) (after_lookup setting state zone.origin (answered zone state.name rr_types.A what))
      of (ByCut cut) = all_stay NoData (λ ns. referred setting state (cut_at state zone cut ns)) (λ ns. referred_stays NoData (cut_at state zone cut ns)) (ns_names zone cut)
      of (ByRedirection owner None) = refl
      of (ByRedirection owner (Some target)) = by (nat_le (wire_octets (swap state.name owner target)) 255) where
        onto : Bool → Found
        onto b = if b then found_as.Rewrite true owner (swap state.name owner target) else found_as.TooLong owner

        by : (b : Bool) → after_lookup setting state zone.origin (onto b) ≡ map (branch_with (leaf_of (onto b))) (after_lookup setting state zone.origin (onto b))
        by true = rewrite_stays NoData zone.origin true owner (swap state.name owner target)
        by false = too_long_stays NoData zone.origin owner
      of (ByRecords owner) = by_records owner
      of ByNothing = refl

    in_alike : (zone : Option Zone) → in_zone setting t state zone ≡ map (branch_with (leaf_in t state.name zone)) (in_zone setting rr_types.A state zone)
    in_alike None = refl
    in_alike (Some zone) = of zone (deciding zone state.name)

    -- a state's branches with the type are those with type A, but for what a zone tells
    next_alike : next setting t state ≡ map (branch_with (leaf_in t state.name (nearest_of setting.config state.server state.name))) (next setting rr_types.A state)
    next_alike = in_alike (nearest_of setting.config state.server state.name)

-- ---- walks

-- a state behind another is last as it is by itself
pub last_behind : (state : State) (states : List State) (to : State) (rest : List State) → states ≡ to ∷ rest → last_state (state ∷ states) ≡ last_state states
last_behind state states to rest is = ap (λ (all : List State). last_state (state ∷ all)) is ∙ more ∙ sym (ap last_state is) where
  more : last_state (state ∷ to ∷ rest) ≡ last_state (to ∷ rest)
  more = ap (slice_get (state ∷ to ∷ rest)) (let e : length (state ∷ to ∷ rest) - 1 ≡ suc (length (to ∷ rest) - 1) = omega arith in e)

-- what was found is told by a zone
pub is_of_zone : (found : Found) → is_authoritative (leaf_of found) ≡ true
is_of_zone (found_as.Answer rdata) = refl
is_of_zone found_as.NoData = refl
is_of_zone found_as.NxDomain = refl
is_of_zone (found_as.Referral cut names) = refl
is_of_zone (found_as.Rewrite by_dname owner to) = refl
is_of_zone (found_as.TooLong owner) = refl

-- and so is what a zone has for the name
pub is_of_zone_in : (t : RrType) (name : Labels) (zone : Option Zone) → is_authoritative (leaf_in t name zone) ≡ true
is_of_zone_in t name None = refl
is_of_zone_in t name (Some zone) = is_of_zone (answered zone name t (deciding zone name))

some_mapped : {X Y : Type 0} (f : X → Y) (o : Option X) → is_some (option_map f o) ≡ is_some o
some_mapped f None = refl
some_mapped f (Some x) = refl

module _ (setting : Setting) (t : RrType) (other : type_eq t rr_types.Cname ≡ false) where
  -- what a zone tells with the type in the state
  abbrev leaf_by_zone : State → Leaf
  leaf_by_zone state = leaf_in t state.name (nearest_of setting.config state.server state.name)

  -- how a walk ends with the type that ends so with type A
  abbrev leaf_as : Option State → Leaf → Leaf
  leaf_as None leaf = Outside
  leaf_as (Some state) leaf = if is_authoritative leaf then leaf_by_zone state else leaf

  -- a walk of type A with the type
  abbrev pub walk_as : Walk → Walk
  walk_as walk = record { states = walk.states; hops = walk.hops; leaf = leaf_as (last_state walk.states) walk.leaf }

  goes_as : (state : State) (hop : Hop) (to : State) (walk : Option Walk)
      → ((later : Walk) → walk ≡ Some later → (rest : List State) × (later.states ≡ to ∷ rest))
      → option_map (led_on state hop) (option_map walk_as walk) ≡ option_map walk_as (option_map (led_on state hop) walk)
  goes_as state hop to None begins = refl
  goes_as state hop to (Some walk) begins =
      let first = begins walk refl in
      ap (λ (last : Option State). Some (record { states = state ∷ walk.states; hops = hop ∷ walk.hops; leaf = leaf_as last walk.leaf }))
      (sym (last_behind state walk.states to first.0 first.1))

  branch_as : (state : State) (is_last : Bool) (on along : State → Option Walk) → ((to : State) → along to ≡ option_map walk_as (on to))
      → ((to : State) (later : Walk) → on to ≡ Some later → (rest : List State) × (later.states ≡ to ∷ rest)) → (branch : Option Branch)
      → branched state is_last along (option_map (branch_with (leaf_by_zone state)) branch) ≡ option_map walk_as (branched state is_last on branch)
  branch_as state is_last on along same begins None = refl
  branch_as state is_last on along same begins (Some (Go hop to)) = ap (option_map (led_on state hop)) (same to) ∙ goes_as state hop to (on to) (begins to)
  branch_as state true on along same begins (Some (End hop leaf)) = refl
  branch_as state false on along same begins (Some (End hop leaf)) = refl

  -- the walks from a state are those of type A with the type
  from_as : (numbers : List ℕ) (state : State) → walk_from setting t numbers state ≡ option_map walk_as (walk_from setting rr_types.A numbers state)
  from_as [] state = refl
  from_as (number ∷ numbers) state =
      ap (branched state (length numbers == 0) (walk_from setting t numbers))
      (ap (λ (branches : List Branch). slice_get branches number) (next_alike setting state t other)
      ∙ slice_get-map (branch_with (leaf_by_zone state)) (next setting rr_types.A state) number)
      ∙ branch_as state (length numbers == 0) (walk_from setting rr_types.A numbers) (walk_from setting t numbers) (from_as numbers)
      (λ to later. first_state setting rr_types.A numbers to later) (slice_get (next setting rr_types.A state) number)

  -- and so are those of a query
  along_as : (query : Labels) (numbers : List ℕ) → walk_along setting query t numbers ≡ option_map walk_as (walk_along setting query rr_types.A numbers)
  along_as query [] = refl
  along_as query (number ∷ numbers) = by (slice_get (start setting.config query) number) where
    by : (begin : Option State)
        → option_and_then (walk_from setting t numbers) begin ≡ option_map walk_as (option_and_then (walk_from setting rr_types.A numbers) begin)
    by None = refl
    by (Some state) = from_as numbers state

  module _ (on along : List ℕ → Option Walk) (same : (numbers : List ℕ) → along numbers ≡ option_map walk_as (on numbers)) where
    some_as : (numbers : List ℕ) → is_some (along numbers) ≡ is_some (on numbers)
    some_as numbers = ap is_some (same numbers) ∙ some_mapped walk_as (on numbers)

    list_as : (paths : List (List ℕ)) (walks : List Walk) → map on paths ≡ map (λ (walk : Walk). Some walk) walks
        → map along paths ≡ map (λ (walk : Walk). Some walk) (map walk_as walks)
    list_as paths walks is =
        ap (λ (f : List ℕ → Option Walk). map f paths) (fun_ext same)
        ∙ sym (map-map (option_map walk_as) on paths)
        ∙ ap (map (option_map walk_as)) is
        ∙ map-map (option_map walk_as) (λ (walk : Walk). Some walk) walks
        ∙ sym (map-map (λ (walk : Walk). Some walk) walk_as walks)

  -- all walks that are asked for are those of type A with the type
  pub asked_as : (server : Option Labels) (name : Labels) (walks : List Walk) → AreAsked setting name rr_types.A server walks
      → AreAsked setting name t server (map walk_as walks)
  asked_as None name walks (paths, are, is) =
      let some = some_as (walk_along setting name rr_types.A) (walk_along setting name t) (along_as name) in (
        paths,
        record {
          ordered = are.ordered;
          all = λ numbers. ((λ has. some numbers ∙ (are.all numbers).0 has), (λ is. (are.all numbers).1 (sym (some numbers) ∙ is)));
        },
        list_as (walk_along setting name rr_types.A) (walk_along setting name t) (along_as name) paths walks is,
      )
  asked_as (Some server) name walks (paths, are, is) =
      let state = asked_at setting server name in
      let some = some_as (λ (ns : List ℕ). walk_from setting rr_types.A ns state) (λ (ns : List ℕ). walk_from setting t ns state) (λ ns. from_as ns state) in (
        paths,
        record {
          ordered = are.ordered;
          all = λ numbers. ((λ has. some numbers ∙ (are.all numbers).0 has), (λ is. (are.all numbers).1 (sym (some numbers) ∙ is)));
        },
        list_as (λ (ns : List ℕ). walk_from setting rr_types.A ns state) (λ (ns : List ℕ). walk_from setting t ns state) (λ ns. from_as ns state) paths walks is,
      )

  -- ---- their ends

  kept : (leaf : Leaf) (rest : List Leaf) (b : Bool) → is_authoritative leaf ≡ b → filter is_authoritative (leaf ∷ rest) ≡ cond b (leaf ∷ filter is_authoritative rest) (filter is_authoritative rest)
  kept leaf rest b e = ap (λ (c : Bool). cond c (leaf ∷ filter is_authoritative rest) (filter is_authoritative rest)) e

  -- the ends that a zone tells are those that it tells with the type where walks of type A end so
  pub leaves_as : (walks : List Walk) → zone_leaves (map walk_as walks) ≡ map (leaf_at setting.config t) (flat_map zone_ends_of walks)
  leaves_as [] = refl
  leaves_as (walk ∷ walks) = by (last_state walk.states) (leaves_as walks) where
    rest : List Leaf
    rest = map (λ (w : Walk). w.leaf) (map walk_as walks)

    at : (state : State) (b : Bool) → is_authoritative walk.leaf ≡ b → filter is_authoritative rest ≡ map (leaf_at setting.config t) (flat_map zone_ends_of walks)
        → filter is_authoritative ((if b then leaf_by_zone state else walk.leaf) ∷ rest)
        ≡ map (leaf_at setting.config t) ((if b then record { server = state.server; name = state.name } ∷ [] else []) ++ flat_map zone_ends_of walks)
    at state true e same =
        kept (leaf_by_zone state) rest true (is_of_zone_in t state.name (nearest_of setting.config state.server state.name))
        ∙ ap (λ (leaves : List Leaf). leaf_by_zone state ∷ leaves) same
    at state false e same = kept walk.leaf rest false e ∙ same

    by : (last : Option State) → filter is_authoritative rest ≡ map (leaf_at setting.config t) (flat_map zone_ends_of walks)
        → filter is_authoritative (leaf_as last walk.leaf ∷ rest)
        ≡ map (leaf_at setting.config t) (option_map_or (zone_ends_at walk.leaf) last [] ++ flat_map zone_ends_of walks)
    by None same = same
    by (Some state) same = at state (is_authoritative walk.leaf) refl same
