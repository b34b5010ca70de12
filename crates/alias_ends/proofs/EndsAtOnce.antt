-- A server that is asked last for a name by some walk of the name ends each walk of it that begins there.
use Rattle.std.proofs.Common.{◌≡◌, ℕ, zero, suc, ◌-◌, Bool, true, false, ◌&&◌, List, [], ◌∷◌, ◌++◌, length, map, slice_get, Contains, Option, Some, None, refl, sym, ap, ◌∙◌, subst, inl, inr, arith}
use Rattle.std.proofs.lemmas.Bool.{and_parts}
use Rattle.std.specs.Prelude.{◌⊎◌, ◌==◌, ◌+◌, ◌||◌, not, nat_lt, option_and_then, option_map, if◌then◌else◌}
use Rattle.std.specs.List.{AllByRecursion, flat_map, list_any}
use Rattle.std.specs.Option.{option_map_or}
use Rattle.dns_data.specs.Name.{Labels, is_prefix, name_eq}
use Rattle.dns_data.specs.declared.rr_type.RrType.TheVariants as rr_types
use Rattle.dns_data.proofs.Membership.{all_images, from_map, map_has}
use Rattle.dns_data.proofs.Names.{name_eq_decides}
use Rattle.dns_data.proofs.Searches.{from_any}
use Rattle.net_model.specs.declared.config.Zone.{Zone}
use Rattle.net_model.specs.declared.found.Found.{Found}
use Rattle.net_model.specs.declared.found.Found.TheVariants as found_as
use Rattle.net_model.specs.declared.place.Cut.{Cut}
use Rattle.net_model.specs.declared.walk.Hop.TheVariants.{Refer, Rewrite}
use Rattle.net_model.specs.declared.walk.Leaf.{Leaf}
use Rattle.net_model.specs.declared.walk.Leaf.TheVariants.{Lame, Limit, NoAddress, Overlong, Unhosted}
use Rattle.net_model.specs.declared.walk.State.{State}
use Rattle.net_model.specs.declared.walk.Walk.{Walk}
use Rattle.net_model.specs.Lookup.{found}
use Rattle.net_model.specs.Nearest.{is_configured, nearest_of}
use Rattle.net_model.specs.Shown.{is_authoritative}
use Rattle.net_model.specs.Step.{Setting, Branch, Go, End, after_lookup, arrived, delegated, in_zone, may_follow, next, referred, servers_after, start}
use Rattle.net_model.specs.Walk.{AreWalks, walk_along, walk_from}
use Rattle.net_model.proofs.AllWalks.{Settled, walks_by, walks_within}
use Rattle.net_model.proofs.Branches.{cut_at, place_in}
use Rattle.net_model.proofs.Leads.{EndsBy, GoesOn, branch_taken, first_state}
use Rattle.net_model.proofs.WalkEnds.{item}
use Rattle.plain_resolver.specs.Begun.{most_states, server_settles}
use Rattle.plain_resolver.specs.FromServer.{AreAsked, HasMoreAsked, asked_at}
use Rattle.plain_resolver.specs.WalkEnds.{last_state, zone_ends_at, zone_ends_of}
use Rattle.plain_resolver.specs.declared.walk_end.ZoneEnd.{ZoneEnd}
use Rattle.alias_ends.specs.Aliases.{FollowsWalks, is_ended_at, other_types, target_word}
use Rattle.alias_ends.specs.Known.{ends_in, is_at, leaf_of, some_at, word_by_ends, unless_many, walks_in, word_at}
use Rattle.alias_ends.proofs.AliasWords.{any_ended, first_none, no_word, same_word, walks_so}
use Rattle.alias_ends.proofs.TypesAlike.{is_of_zone, last_behind}

-- what was found ends a walk
abbrev is_last : Found → Bool
is_last (found_as.Answer rdata) = true
is_last found_as.NoData = true
is_last found_as.NxDomain = true
is_last other = false

module _ (setting : Setting) where
  -- what the server finds of the name ends a walk
  abbrev Rests : Labels → Labels → Type 0
  Rests server name = (zone : Zone) × (nearest_of setting.config server name ≡ Some zone) × (is_last (found zone name rr_types.A) ≡ true)

  module _ (state : State) where
    -- the branch doesn't end in what a zone tells, or what its server finds ends a walk
    abbrev RestsAtEnd : Branch → Type 0
    RestsAtEnd (Go hop to) = Unit {0}
    RestsAtEnd (End hop leaf) = is_authoritative leaf ≡ true → Rests state.server state.name

    delegated_rests : (cut : Cut) (below : Option Zone) → RestsAtEnd (delegated state cut below)
    delegated_rests cut None = λ told. cc
    delegated_rests cut (Some below) = by (is_prefix cut.cut below.origin) where
      by : (b : Bool) → RestsAtEnd (if b then Go (Refer cut) (record state { server = cut.ns; cut = length cut.cut; zone = Some below.origin }) else End (Some (Refer cut)) (Lame cut.ns))
      by true = tt
      by false = λ told. cc

    referred_rests : (cut : Cut) → RestsAtEnd (referred setting state cut)
    referred_rests cut =
        by (is_configured setting.config cut.ns) (may_follow setting.config cut setting.followed)
        (delegated state cut (nearest_of setting.config cut.ns state.name)) (delegated_rests cut (nearest_of setting.config cut.ns state.name))
      where
        by : (configured follow : Bool) (on : Branch) → RestsAtEnd on
            → RestsAtEnd (if not configured then End (Some (Refer cut)) (Unhosted cut.ns) else (if not follow then End (Some (Refer cut)) (NoAddress cut.ns) else on))
        by true true on is = is
        by true false on is = λ told. cc
        by false follow on is = λ told. cc

    module _ (zone : Zone) (nearest : nearest_of setting.config state.server state.name ≡ Some zone) where
      after_rests : (finds : Found) → found zone state.name rr_types.A ≡ finds → AllByRecursion RestsAtEnd (after_lookup setting state zone.origin finds)
      after_rests (found_as.Answer rdata) is = ((λ told. (zone, nearest, ap is_last is)), tt)
      after_rests found_as.NoData is = ((λ told. (zone, nearest, ap is_last is)), tt)
      after_rests found_as.NxDomain is = ((λ told. (zone, nearest, ap is_last is)), tt)
      after_rests (found_as.Referral cut names) is =
          all_images (λ (ns : Labels). referred setting state (cut_at state zone cut ns)) RestsAtEnd names (λ ns has. referred_rests (cut_at state zone cut ns))
      after_rests (found_as.Rewrite by_dname owner to) is = by (nat_lt state.used setting.rewrites) where
        on : Labels → Branch
        on server =
            Go (Rewrite (place_in state zone owner) by_dname to)
            (arrived setting.config to (state.carried && by_dname) (state.used + 1) (Some (place_in state zone owner)) server)

        by : (left : Bool) → AllByRecursion RestsAtEnd (if left then map on (servers_after setting.config state to) else End None (Limit (place_in state zone owner)) ∷ [])
        by true = all_images on RestsAtEnd (servers_after setting.config state to) (λ server has. tt)
        by false = ((λ told. cc), tt)
      after_rests (found_as.TooLong owner) is = by (nat_lt state.used setting.rewrites) where
        by : (left : Bool) → AllByRecursion RestsAtEnd (if left then End None (Overlong (place_in state zone owner)) ∷ [] else End None (Limit (place_in state zone owner)) ∷ [])
        by true = ((λ told. cc), tt)
        by false = ((λ told. cc), tt)

    zone_rests : (zone : Option Zone) → nearest_of setting.config state.server state.name ≡ zone → AllByRecursion RestsAtEnd (in_zone setting rr_types.A state zone)
    zone_rests None nearest = ((λ told. cc), tt)
    zone_rests (Some zone) nearest = after_rests zone nearest (found zone state.name rr_types.A) refl

    next_rests : AllByRecursion RestsAtEnd (next setting rr_types.A state)
    next_rests = zone_rests (nearest_of setting.config state.server state.name) refl

    -- where what the server finds ends a walk, it is the only end
    only_end : (zone : Zone) (finds : Found) → is_last finds ≡ true → after_lookup setting state zone.origin finds ≡ End None (leaf_of finds) ∷ []
    only_end zone (found_as.Answer rdata) last = refl
    only_end zone found_as.NoData last = refl
    only_end zone found_as.NxDomain last = refl
    only_end zone (found_as.Referral cut names) last = cc
    only_end zone (found_as.Rewrite by_dname owner to) last = cc
    only_end zone (found_as.TooLong owner) last = cc

    rests_next : (rests : Rests state.server state.name) → next setting rr_types.A state ≡ End None (leaf_of (found rests.0 state.name rr_types.A)) ∷ []
    rests_next (zone, nearest, last) = ap (in_zone setting rr_types.A state) nearest ∙ only_end zone (found zone state.name rr_types.A) last

  -- ---- the walks of the name

  -- the last state of a walk, whose server finds what ends it
  record RestsIn (walk : Walk) : Type 0 where
    last : State
    is : last_state walk.states ≡ Some last
    rests : Rests last.server last.name

  from_rests : (numbers : List ℕ) (state : State) (walk : Walk) → walk_from setting rr_types.A numbers state ≡ Some walk → is_authoritative walk.leaf ≡ true → RestsIn walk
  from_rests [] state walk e told = cc
  from_rests (number ∷ numbers) state walk e told =
      by (branch_taken state (length numbers == 0) (walk_from setting rr_types.A numbers) (slice_get (next setting rr_types.A state) number) walk e) (from_rests numbers)
    where
      by : GoesOn state (walk_from setting rr_types.A numbers) (slice_get (next setting rr_types.A state) number) walk
          ⊎ EndsBy state (slice_get (next setting rr_types.A state) number) walk
          → ((to : State) (later : Walk) → walk_from setting rr_types.A numbers to ≡ Some later → is_authoritative later.leaf ≡ true → RestsIn later) → RestsIn walk
      by (inl goes) rest =
          let first = first_state setting rr_types.A numbers goes.to goes.later goes.goes in
          let later = rest goes.to goes.later goes.goes (ap (λ (w : Walk). is_authoritative w.leaf) goes.made ∙ told) in
          record {
            last = later.last;
            is = sym (ap (λ (w : Walk). last_state w.states) goes.made) ∙ last_behind state goes.later.states goes.to first.0 first.1 ∙ later.is;
            rests = later.rests;
          }
      by (inr ends) rest =
          record {
            last = state;
            is = sym (ap (λ (w : Walk). last_state w.states) ends.made);
            rests = item (RestsAtEnd state) (next setting rr_types.A state) number (End ends.hop ends.leaf) (next_rests state) ends.is (ap (λ (w : Walk). is_authoritative w.leaf) ends.made ∙ told);
          }

  along_rests : (query : Labels) (numbers : List ℕ) (walk : Walk) → walk_along setting query rr_types.A numbers ≡ Some walk → is_authoritative walk.leaf ≡ true → RestsIn walk
  along_rests query [] walk e told = cc
  along_rests query (number ∷ numbers) walk e told = by (slice_get (start setting.config query) number) e where
    by : (begin : Option State) → option_and_then (walk_from setting rr_types.A numbers) begin ≡ Some walk → RestsIn walk
    by None e = cc
    by (Some state) e = from_rests numbers state walk e told

  module _ (server name : Labels) where
    -- a walk that asks the server last for the name ends in what the server finds
    walk_rests : (walk : Walk) → (is_authoritative walk.leaf ≡ true → RestsIn walk) → list_any (is_at server name) (zone_ends_of walk) ≡ true → Rests server name
    walk_rests walk in_last at = by (last_state walk.states) refl at where
      told : (state : State) (b : Bool) → last_state walk.states ≡ Some state → is_authoritative walk.leaf ≡ b
          → list_any (is_at server name) (if b then record { server = state.server; name = state.name } ∷ [] else []) ≡ true → Rests server name
      told state false is e at = cc
      told state true is e at =
          let in_state = in_last e in
          let same : state ≡ in_state.last = some_same state in_state.last (sym is ∙ in_state.is) in
          let parts = and_parts (name_eq server state.server) (name_eq name state.name) (either (is_at server name (record { server = state.server; name = state.name })) at) in
          let rests : Rests state.server state.name = subst (λ (s : State). Rests s.server s.name) (sym same) in_state.rests in
          subst (λ (s : Labels). Rests s name) (sym ((name_eq_decides server state.server).0 parts.0))
          (subst (λ (n : Labels). Rests state.server n) (sym ((name_eq_decides name state.name).0 parts.1)) rests)
        where
          some_same : (a b : State) → Some a ≡ Some b → a ≡ b
          some_same a b e = cc

          either : (b : Bool) → (b || false) ≡ true → b ≡ true
          either true e = refl
          either false e = e

      by : (last : Option State) → last_state walk.states ≡ last → list_any (is_at server name) (option_map_or (zone_ends_at walk.leaf) last []) ≡ true → Rests server name
      by None is at = cc
      by (Some state) is at = told state (is_authoritative walk.leaf) is refl at

    some_rests : (walks : List Walk) → AreWalks setting name rr_types.A walks → list_any (is_ended_at server name) walks ≡ true → Rests server name
    some_rests walks (paths, are, is) some =
        let walk = from_any (is_ended_at server name) walks some in
        let path = from_map (walk_along setting name rr_types.A) paths (Some walk.0)
        (subst (λ (all : List (Option Walk)). Contains all (Some walk.0)) (sym is) (map_has (λ (w : Walk). Some w) walks walk.0 walk.1)) in
        walk_rests walk.0 (along_rests name path.0 walk.0 path.2) walk.2

    -- so the walks that begin there end at once
    ends_once : Rests server name → ends_in setting rr_types.A (Some server) name ≡ Some (record { server = server; name = name } ∷ [])
    unfolding walks_in
    ends_once rests =
        ap (λ (walks : List Walk). option_map (flat_map zone_ends_of) (unless_many walks))
        (once (most_states setting rr_types.A name (Some server) - 0) settled)
        ∙ told (leaf_of (found rests.0 name rr_types.A)) (is_of_zone (found rests.0 name rr_types.A))
      where
        state : State
        state = asked_at setting server name

        settled : Settled (most_states setting rr_types.A name (Some server) - 0) setting rr_types.A state
        settled =
            let all = server_settles setting rr_types.A server name in
            subst (λ (depth : ℕ). Settled depth setting rr_types.A state) (let e : all.0 ≡ all.0 - 0 = omega arith in e) all.1

        walk : Leaf → Walk
        walk leaf = record { states = state ∷ []; hops = []; leaf = leaf }

        once : (depth : ℕ) → Settled depth setting rr_types.A state
            → flat_map (walks_within depth setting rr_types.A) (state ∷ []) ≡ walk (leaf_of (found rests.0 name rr_types.A)) ∷ []
        once zero settled = absurd settled
        once (suc depth) settled =
            ap (λ (branches : List Branch). flat_map (walks_by (walks_within depth setting rr_types.A) state) branches ++ []) (rests_next state rests)

        told : (leaf : Leaf) → is_authoritative leaf ≡ true
            → Some (zone_ends_of (walk leaf) ++ []) ≡ Some (record { server = server; name = name } ∷ [])
        told leaf is = ap (λ (b : Bool). Some ((if b then record { server = server; name = name } ∷ [] else []) ++ [])) is

-- there is no word for a target for which some walk from the top servers asks the server last
pub none_there : (setting : Setting) (server name : Labels) → some_at server name (ends_in setting rr_types.A None name) ≡ true → target_word (walks_in setting) server name ≡ None
none_there setting server name at = by (walks_in setting None name rr_types.A) (walks_so setting None name rr_types.A) refl at where
  by : (walks : Option (List Walk)) → FollowsWalks (HasMoreAsked setting name rr_types.A None) (AreAsked setting name rr_types.A None) walks
      → walks_in setting None name rr_types.A ≡ walks → some_at server name (option_map (flat_map zone_ends_of) walks) ≡ true → target_word (walks_in setting) server name ≡ None
  by None follows is at = cc
  by (Some walks) follows is at =
      let rests = some_rests setting server name walks follows.1 (sym (any_ended server name walks) ∙ at) in
      let tops = flat_map zone_ends_of walks in
      let end : ZoneEnd = record { server = server; name = name } in
      sym (same_word setting server name)
      ∙ (λ i. word_by_ends setting.config (ends_once setting server name rests i) (option_map (flat_map zone_ends_of) (is i)))
      ∙ first_none (word_at setting.config (end ∷ []) tops)
      (λ rtype. no_word setting.config (end ∷ []) tops rtype (ap (λ (b : Bool). b && true) at)) other_types
