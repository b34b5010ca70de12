-- With more servers followed, a branch stays the same unless it ended for want of an address. So more is learnt.
use Rattle.std.proofs.Common.{◌≡◌, ℕ, Bool, true, false, not, ◌||◌, ◌&&◌, List, [], ◌∷◌, map, length, Option, Some, None, refl, sym, ap, ◌∙◌, inl, inr, ◌==◌}
use Rattle.std.specs.Prelude.{◌⊎◌, slice_get, option_and_then, option_map, nat_lt, if◌then◌else◌}
use Rattle.std.specs.List.{list_any, AllZip}
use Rattle.std.proofs.lemmas.Bool.{or_cases}
use Rattle.dns_data.specs.Name.{Labels, name_eq, is_prefix}
use Rattle.dns_data.specs.declared.rr_type.RrType.{RrType}
use Rattle.dns_data.specs.declared.rr_type.RrType.TheVariants as types
use Rattle.graph_form.proofs.Places.{PairAt, pair_at}
use Rattle.address_deps.specs.Giving.{may_take}
use Rattle.net_model.specs.declared.config.Config.{Config}
use Rattle.net_model.specs.declared.config.Zone.{Zone}
use Rattle.net_model.specs.declared.found.Found.{Found}
use Rattle.net_model.specs.declared.found.Found.TheVariants as found_as
use Rattle.net_model.specs.declared.place.Cut.{Cut}
use Rattle.net_model.specs.declared.place.Place.{Place}
use Rattle.net_model.specs.declared.walk.Hop.{Hop}
use Rattle.net_model.specs.declared.walk.Hop.TheVariants.{Refer, Rewrite}
use Rattle.net_model.specs.declared.walk.Leaf.{Leaf}
use Rattle.net_model.specs.declared.walk.Leaf.TheVariants.{NoAddress, Unhosted, Lame}
use Rattle.net_model.specs.declared.walk.State.{State}
use Rattle.net_model.specs.declared.walk.Walk.{Walk}
use Rattle.net_model.specs.Learnt.{gives_address, LearnsBy, Learns}
use Rattle.net_model.specs.Lookup.{found}
use Rattle.net_model.specs.Nearest.{is_configured, is_top, nearest_of}
use Rattle.net_model.specs.Step.{Setting, following, Branch, Go, End, has_glue, may_follow, delegated, referred, servers_after, after_lookup, in_zone, next, start}
use Rattle.net_model.specs.Walk.{branched, led_on, walk_from, walk_along}
use Rattle.net_model.proofs.LearntSets.{walk_gives}

-- an address is learnt if a walk of the name gives one
pub from_giving : (setting : Setting) (name : Labels) (rtype : RrType) (numbers : List ℕ) → walk_gives (walk_along setting name rtype numbers) ≡ true
    → LearnsBy setting name rtype
from_giving setting name rtype numbers h = by (walk_along setting name rtype numbers) refl h where
  by : (found : Option Walk) → walk_along setting name rtype numbers ≡ found → walk_gives found ≡ true → LearnsBy setting name rtype
  by None e h = cc
  by (Some walk) e h = record { walk = walk; is_walk = (numbers, e); ends = h }

module _ (state : State) where
  -- a walk with a state and a hop before it gives an address exactly where the walk does
  pub gives_led : (hop : Hop) (later : Option Walk) → walk_gives (option_map (led_on state hop) later) ≡ walk_gives later
  gives_led hop None = refl
  gives_led hop (Some later) = refl

  module _ (on : State → Option Walk) where
    -- a walk whose branch ends gives an address exactly where that is its last branch and the end gives one
    pub ended_gives : (is_last : Bool) (hop : Option Hop) (leaf : Leaf) → walk_gives (branched state is_last on (Some (End hop leaf))) ≡ (is_last && gives_address leaf)
    ended_gives true hop leaf = refl
    ended_gives false hop leaf = refl

    -- a walk whose branch ends without an address gives none
    pub none_given : (is_last : Bool) (hop : Option Hop) (leaf : Leaf) → gives_address leaf ≡ false
        → walk_gives (branched state is_last on (Some (End hop leaf))) ≡ true → ⊥
    none_given true hop leaf none h = let no : false ≡ true = sym none ∙ h in cc
    none_given false hop leaf none h = cc

-- a branch while few servers are followed, and the same while more are: it is the same, or ends for want of an address,
-- where it goes on by a referral that isn't open, or ends otherwise and gives none
abbrev pub Narrowed : Config → List Labels → Branch → Branch → Type 0
Narrowed config few (Go hop to) branch =
    ((may_take config few hop ≡ true) × (branch ≡ Go hop to))
    ⊎ ((may_take config few hop ≡ false) × ((ns : Labels) × (branch ≡ End (Some hop) (NoAddress ns))))
Narrowed config few (End hop leaf) branch =
    (branch ≡ End hop leaf) ⊎ ((gives_address leaf ≡ false) × ((ns : Labels) × (branch ≡ End hop (NoAddress ns))))

module _ (config : Config) (rewrites : ℕ) (few more : List Labels)
    (within : (name : Labels) → list_any (name_eq name) few ≡ true → list_any (name_eq name) more ≡ true) where
  -- what may be followed stays so
  stays_open : (cut : Cut) → may_follow config cut few ≡ true → may_follow config cut more ≡ true
  stays_open cut free =
      by (is_top config cut.ns || has_glue config cut) (or_cases (is_top config cut.ns || has_glue config cut) (list_any (name_eq cut.ns) few) free)
    where
      by : (b : Bool) → (b ≡ true) ⊎ (list_any (name_eq cut.ns) few ≡ true) → (b || list_any (name_eq cut.ns) more) ≡ true
      by true either = refl
      by false (inl e) = cc
      by false (inr e) = within cut.ns e

  module _ (state : State) (cut : Cut) where
    abbrev closed : Branch
    closed = End (Some (Refer cut)) (NoAddress cut.ns)

    -- a name server that is followed either way
    delegated_same : (zone : Option Zone) → may_follow config cut few ≡ true → Narrowed config few (delegated state cut zone) (delegated state cut zone)
    delegated_same None free = inl refl
    delegated_same (Some zone) free = by (is_prefix cut.cut zone.origin) where
      by : (b : Bool) → Narrowed config few
          (if b then Go (Refer cut) (record state { server = cut.ns; cut = length cut.cut; zone = Some zone.origin }) else End (Some (Refer cut)) (Lame cut.ns))
          (if b then Go (Refer cut) (record state { server = cut.ns; cut = length cut.cut; zone = Some zone.origin }) else End (Some (Refer cut)) (Lame cut.ns))
      by true = inl (free, refl)
      by false = inl refl

    -- and one that is followed no more
    delegated_closed : (zone : Option Zone) → may_follow config cut few ≡ false → Narrowed config few (delegated state cut zone) closed
    delegated_closed None shut = inr (refl, (cut.ns, refl))
    delegated_closed (Some zone) shut = by (is_prefix cut.cut zone.origin) where
      by : (b : Bool) → Narrowed config few
          (if b then Go (Refer cut) (record state { server = cut.ns; cut = length cut.cut; zone = Some zone.origin }) else End (Some (Refer cut)) (Lame cut.ns))
          closed
      by true = inr (shut, (cut.ns, refl))
      by false = inr (refl, (cut.ns, refl))

    referred_narrowed : Narrowed config few (referred (following config rewrites more) state cut) (referred (following config rewrites few) state cut)
    referred_narrowed =
        by (is_configured config cut.ns) (may_follow config cut few) refl (may_follow config cut more) (stays_open cut) (nearest_of config cut.ns state.name)
      where
        by : (configured follow : Bool) → may_follow config cut few ≡ follow → (more_follow : Bool) → (may_follow config cut few ≡ true → more_follow ≡ true)
            → (zone : Option Zone)
            → Narrowed config few
            (if not configured then End (Some (Refer cut)) (Unhosted cut.ns) else (if not more_follow then closed else delegated state cut zone))
            (if not configured then End (Some (Refer cut)) (Unhosted cut.ns) else (if not follow then closed else delegated state cut zone))
        by false follow is more_follow stays _ = inl refl
        by true true is true stays zone = delegated_same zone is
        by true true is false stays _ = let no : false ≡ true = stays is in cc
        by true false is true stays zone = delegated_closed zone is
        by true false is false stays _ = inl refl

  -- ---- all branches of a state

  all_referred : (state : State) (zone cut : Labels) (names : List Labels)
      → AllZip (Narrowed config few)
      (map (λ ns. referred (following config rewrites more) state (record { server = state.server; zone = zone; cut = cut; ns = ns })) names)
      (map (λ ns. referred (following config rewrites few) state (record { server = state.server; zone = zone; cut = cut; ns = ns })) names)
  all_referred state zone cut [] = tt
  all_referred state zone cut (ns ∷ names) =
      (referred_narrowed state (record { server = state.server; zone = zone; cut = cut; ns = ns }), all_referred state zone cut names)

  all_rewritten : (place : Place) (by_dname : Bool) (to : Labels) (at : Labels → State) (servers : List Labels)
      → AllZip (Narrowed config few) (map (λ server. Go (Rewrite place by_dname to) (at server)) servers) (map (λ server. Go (Rewrite place by_dname to) (at server)) servers)
  all_rewritten place by_dname to at [] = tt
  all_rewritten place by_dname to at (server ∷ servers) = (inl (refl, refl), all_rewritten place by_dname to at servers)

  -- of two lists one is chosen
  one_of_two : (b : Bool) (one other : List Branch) → AllZip (Narrowed config few) one one → AllZip (Narrowed config few) other other
      → AllZip (Narrowed config few) (if b then one else other) (if b then one else other)
  one_of_two true one other a b = a
  one_of_two false one other a b = b

  after_narrowed : (state : State) (origin : Labels) (what : Found)
      → AllZip (Narrowed config few) (after_lookup (following config rewrites more) state origin what) (after_lookup (following config rewrites few) state origin what)
  after_narrowed state origin (found_as.Answer rdata) = (inl refl, tt)
  after_narrowed state origin found_as.NoData = (inl refl, tt)
  after_narrowed state origin found_as.NxDomain = (inl refl, tt)
  after_narrowed state origin (found_as.Referral cut names) = all_referred state origin cut names
  after_narrowed state origin (found_as.Rewrite by_dname owner to) =
      one_of_two (nat_lt state.used rewrites) _ _
      (all_rewritten _ by_dname to _ (servers_after config state to)) (inl refl, tt)
  after_narrowed state origin (found_as.TooLong owner) =
      one_of_two (nat_lt state.used rewrites) _ _ (inl refl, tt) (inl refl, tt)

  -- the branches of a state while few are followed are those while more are, narrowed
  pub next_narrowed : (rtype : RrType) (state : State)
      → AllZip (Narrowed config few) (next (following config rewrites more) rtype state) (next (following config rewrites few) rtype state)
  next_narrowed rtype state = by (nearest_of config state.server state.name) where
    by : (zone : Option Zone)
        → AllZip (Narrowed config few) (in_zone (following config rewrites more) rtype state zone) (in_zone (following config rewrites few) rtype state zone)
    by None = (inl refl, tt)
    by (Some zone) = after_narrowed state zone.origin (found zone state.name rtype)

  -- ---- walks

  -- a walk that gives an address gives one where more are followed
  pair_gives : (rtype : RrType) (numbers : List ℕ) (state : State) (one other : Branch) → Narrowed config few one other
      → ((to : State) → walk_gives (walk_from (following config rewrites few) rtype numbers to) ≡ true → walk_gives (walk_from (following config rewrites more) rtype numbers to) ≡ true)
      → walk_gives (branched state (length numbers == 0) (walk_from (following config rewrites few) rtype numbers) (Some other)) ≡ true
      → walk_gives (branched state (length numbers == 0) (walk_from (following config rewrites more) rtype numbers) (Some one)) ≡ true
  pair_gives rtype numbers state (Go hop to) other (inl (free, same)) rest h =
      let few_on = walk_from (following config rewrites few) rtype numbers in
      let here : walk_gives (option_map (led_on state hop) (few_on to)) ≡ true =
      sym (ap (λ (b : Branch). walk_gives (branched state (length numbers == 0) few_on (Some b))) same) ∙ h in
      gives_led state hop (walk_from (following config rewrites more) rtype numbers to) ∙ rest to (sym (gives_led state hop (few_on to)) ∙ here)
  pair_gives rtype numbers state (Go hop to) other (inr (shut, (ns, same))) rest h =
      let few_on = walk_from (following config rewrites few) rtype numbers in
      absurd (none_given state few_on (length numbers == 0) (Some hop) (NoAddress ns) refl
      (sym (ap (λ (b : Branch). walk_gives (branched state (length numbers == 0) few_on (Some b))) same) ∙ h))
  pair_gives rtype numbers state (End hop leaf) other (inl same) rest h =
      let few_on = walk_from (following config rewrites few) rtype numbers in
      ended_gives state (walk_from (following config rewrites more) rtype numbers) (length numbers == 0) hop leaf
      ∙ sym (ended_gives state few_on (length numbers == 0) hop leaf)
      ∙ sym (ap (λ (b : Branch). walk_gives (branched state (length numbers == 0) few_on (Some b))) same) ∙ h
  pair_gives rtype numbers state (End hop leaf) other (inr (none, (ns, same))) rest h =
      let few_on = walk_from (following config rewrites few) rtype numbers in
      absurd (none_given state few_on (length numbers == 0) hop (NoAddress ns) refl
      (sym (ap (λ (b : Branch). walk_gives (branched state (length numbers == 0) few_on (Some b))) same) ∙ h))

  stays_giving : (rtype : RrType) (numbers : List ℕ) (state : State) → walk_gives (walk_from (following config rewrites few) rtype numbers state) ≡ true
      → walk_gives (walk_from (following config rewrites more) rtype numbers state) ≡ true
  stays_giving rtype [] state h = cc
  stays_giving rtype (number ∷ numbers) state h =
      by (pair_at (Narrowed config few) (next (following config rewrites more) rtype state) (next (following config rewrites few) rtype state) (next_narrowed rtype state) number)
      (stays_giving rtype numbers) h
    where
      by : ((slice_get (next (following config rewrites more) rtype state) number ≡ None) × (slice_get (next (following config rewrites few) rtype state) number ≡ None))
          ⊎ PairAt (Narrowed config few) (next (following config rewrites more) rtype state) (next (following config rewrites few) rtype state) number
          → ((to : State) → walk_gives (walk_from (following config rewrites few) rtype numbers to) ≡ true → walk_gives (walk_from (following config rewrites more) rtype numbers to) ≡ true)
          → walk_gives (branched state (length numbers == 0) (walk_from (following config rewrites few) rtype numbers) (slice_get (next (following config rewrites few) rtype state) number)) ≡ true
          → walk_gives (branched state (length numbers == 0) (walk_from (following config rewrites more) rtype numbers) (slice_get (next (following config rewrites more) rtype state) number)) ≡ true
      by (inl none) rest h =
          let no : false ≡ true = sym (ap (λ (b : Option Branch). walk_gives (branched state (length numbers == 0) (walk_from (following config rewrites few) rtype numbers) b)) none.1) ∙ h in cc
      by (inr pair) rest h =
          ap (λ (b : Option Branch). walk_gives (branched state (length numbers == 0) (walk_from (following config rewrites more) rtype numbers) b)) pair.at_one
          ∙ pair_gives rtype numbers state pair.one pair.other pair.paired rest
          (sym (ap (λ (b : Option Branch). walk_gives (branched state (length numbers == 0) (walk_from (following config rewrites few) rtype numbers) b)) pair.at_other) ∙ h)

  along_stays : (query : Labels) (rtype : RrType) (numbers : List ℕ) → walk_gives (walk_along (following config rewrites few) query rtype numbers) ≡ true
      → walk_gives (walk_along (following config rewrites more) query rtype numbers) ≡ true
  along_stays query rtype [] h = cc
  along_stays query rtype (number ∷ numbers) h = by (slice_get (start config query) number) h where
    by : (begin : Option State) → walk_gives (option_and_then (walk_from (following config rewrites few) rtype numbers) begin) ≡ true
        → walk_gives (option_and_then (walk_from (following config rewrites more) rtype numbers) begin) ≡ true
    by None h = cc
    by (Some state) h = stays_giving rtype numbers state h

  -- what is learnt while few servers are followed is learnt while more are
  pub learns_more : (name : Labels) → Learns (following config rewrites few) name → Learns (following config rewrites more) name
  learns_more name learns = elim learns [ inl four ↦ inl (by types.A four) | inr six ↦ inr (by types.Aaaa six) ] where
    by : (rtype : RrType) → LearnsBy (following config rewrites few) name rtype → LearnsBy (following config rewrites more) name rtype
    by rtype one =
        from_giving (following config rewrites more) name rtype one.is_walk.0
        (along_stays name rtype one.is_walk.0 (ap walk_gives one.is_walk.1 ∙ one.ends))
