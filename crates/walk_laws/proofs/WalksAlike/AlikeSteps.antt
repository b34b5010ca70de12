-- One step of a query and of the name with the other tail: they lead alike, unless the query's rewritten name is too long.
use Rattle.std.proofs.Common.{◌≡◌, ◌⊎◌, ℕ, ◌+◌, ◌-◌, ◌≤◌, Bool, true, false, not, ◌&&◌, List, [], ◌∷◌, ◌++◌, map, length, take, slice_get, Contains, Option, Some, None, is_some, option_map, sym, refl, ap, ◌∙◌, subst, subst₂, true≢false, inl, inr, arith, take_at, length-append}
use Rattle.std.specs.Prelude.{nat_lt, nat_le, if◌then◌else◌}
use Rattle.std.specs.List.{AllByRecursion}
use Rattle.std.proofs.lemmas.Bool.{leb-true, le-leb, and_parts}
use Rattle.std.proofs.lemmas.Simd.{map-map}
use Rattle.dns_data.specs.Name.{Labels, wire_octets, is_prefix, swap}
use Rattle.dns_data.specs.RrType.{type_eq}
use Rattle.dns_data.specs.declared.rdata.Rdata.{Rdata}
use Rattle.dns_data.specs.declared.rr_type.RrType.{RrType}
use Rattle.dns_data.specs.declared.rr_type.RrType.TheVariants as types
use Rattle.dns_data.proofs.NameFronts.{octets_below, tail_octets}
use Rattle.net_model.specs.declared.config.Config.{Config}
use Rattle.net_model.specs.declared.config.Zone.{Zone}
use Rattle.net_model.specs.declared.found.Found.{Found}
use Rattle.net_model.specs.declared.found.Found.TheVariants as found_as
use Rattle.net_model.specs.declared.place.Cut.{Cut}
use Rattle.net_model.specs.declared.place.Place.{Place}
use Rattle.net_model.specs.declared.walk.Hop.{Hop}
use Rattle.net_model.specs.declared.walk.Hop.TheVariants.{Refer, Rewrite}
use Rattle.net_model.specs.declared.walk.Leaf.TheVariants.{Lame, Unhosted, NoAddress, Limit, Overlong}
use Rattle.net_model.specs.declared.walk.State.{State}
use Rattle.net_model.specs.Lookup.{Deciding, ByCut, ByRedirection, ByRecords, ByNothing, answered, found, first_name, aliased, answer_of, at_name, redirected}
use Rattle.net_model.specs.Nearest.{nearest_of, is_configured}
use Rattle.net_model.specs.Order.{in_order}
use Rattle.net_model.specs.Reading.{redirections_of}
use Rattle.net_model.specs.Retail.{retailed_name, retailed_state, retailed_hop}
use Rattle.net_model.specs.Step.{Setting, Branch, Go, End, may_follow, arrived, delegated, referred, servers_after, rewritten, after_lookup, in_zone, next}
use Rattle.net_model.specs.Tails.{IsUnnamedTail}
use Rattle.net_model.specs.Zone.{targets_at, data_at, data_cmp, ns_names}
use Rattle.net_model.specs.OpenTail.{IsOpenTail, open_deciding}
use Rattle.net_model.proofs.Branches.{LooksUp, each_branch}
use Rattle.net_model.proofs.WalkEnds.{LeadsSo, item}
use Rattle.net_model.proofs.NearestZones.{nearest_tells}
use Rattle.net_model.proofs.OpenTails.{open_tail}
use Rattle.walk_laws.proofs.WalksAlike.UnnamedTails.{IsKnownAbove, known_above, nearest_with_tail, opens_in, swapped_below, redirected_tail}

-- a branch of a state with the tail replaced
abbrev pub retailed_branch : ℕ → Labels → Bool → Branch → Branch
retailed_branch count tail carried (Go hop to) = Go (retailed_hop count tail carried hop) (retailed_state count tail to)
retailed_branch count tail carried (End hop leaf) = End (option_map (retailed_hop count tail carried) hop) leaf

-- the branches end overlong
abbrev pub EndsOverlong : List Branch → Type 0
EndsOverlong branches = (place : Place) × (branches ≡ End None (Overlong place) ∷ [])

-- the branches of the name with the other tail are the query's with the tail replaced, or the query's end overlong
abbrev pub Alike : ℕ → Labels → Bool → List Branch → List Branch → Type 0
Alike count tail carried of_query of_other =
    (of_other ≡ map (retailed_branch count tail carried) of_query) ⊎ EndsOverlong of_query

-- two functions that agree everywhere give the same of a list
pub map_same : {A B : Type 0} (f g : A → B) (xs : List A) → ((x : A) → f x ≡ g x) → map f xs ≡ map g xs
map_same f g [] same = refl
map_same f g (x ∷ xs) same = ap (λ y. y ∷ map f xs) (same x) ∙ ap (λ ys. g x ∷ ys) (map_same f g xs same)

-- a name with a tail whose last labels are replaced by another tail is the name with that tail
pub retailed_tail : (above own other : Labels) → retailed_name (length own) other (above ++ own) ≡ above ++ other
retailed_tail above own other =
    let size : length (above ++ own) - length own ≡ length above = omega (arith, length-append above own) in
    ap (λ (n : ℕ). take n (above ++ own) ++ other) size ∙ ap (λ (x : Labels). x ++ other) (take_at above own (length above) refl)

-- what the alias or the data of an existing name give
abbrev given : Labels → Option Labels → List Rdata → Found
given owner (Some target) rdata = found_as.Rewrite false owner target
given owner None rdata = answer_of rdata

-- Each server looks the name with either tail up in the zone of the name above, and in that of this server both tails are
-- open.
pub record AreOpen (config : Config) (server above own other : Labels) : Type 0 where
  pub near_own : (ns : Labels) → nearest_of config ns (above ++ own) ≡ nearest_of config ns above
  pub near_other : (ns : Labels) → nearest_of config ns (above ++ other) ≡ nearest_of config ns above
  pub open_own : (zone : Zone) → nearest_of config server above ≡ Some zone → IsOpenTail zone above own
  pub open_other : (zone : Zone) → nearest_of config server above ≡ Some zone → IsOpenTail zone above other

-- each server looks the name with either tail up in one zone
abbrev pub AreNear : Config → Labels → Labels → Labels → Type 0
AreNear config above own other = (ns : Labels) → nearest_of config ns (above ++ other) ≡ nearest_of config ns (above ++ own)

-- so it is for what the deciding redirection of the server's zone makes of the name, where a rewrite is left and it isn't
-- too long; and then it isn't with the other tail
abbrev pub StaysNear : Setting → Labels → ℕ → Labels → Labels → Labels → Type 0
StaysNear setting server used above own other =
    (zone : Zone) → nearest_of setting.config server above ≡ Some zone → (owner target below : Labels) → open_deciding zone above ≡ ByRedirection owner (Some target)
    → above ≡ owner ++ below → nat_lt used setting.rewrites ≡ true → nat_le (wire_octets ((target ++ below) ++ own)) 255 ≡ true
    → AreNear setting.config (target ++ below) own other × (nat_le (wire_octets ((target ++ below) ++ other)) 255 ≡ true)

module _ (setting : Setting) (above own other server : Labels) (both : AreOpen setting.config server above own other)
    (cut used : ℕ) (last : Option Place) (origin : Option Labels) where
  -- a state that carries the query's last labels, at this name
  abbrev at : Labels → State
  at name = record { server = server; name = name; carried = true; cut = cut; used = used; last = last; zone = origin }

  abbrev changed : Branch → Branch
  changed = retailed_branch (length own) other true

  same_nearest : AreNear setting.config above own other
  same_nearest ns = both.near_other ns ∙ sym (both.near_own ns)

  -- ---- referrals

  delegated_alike : (cut_to : Cut) (zone : Option Zone) → delegated (at (above ++ other)) cut_to zone ≡ changed (delegated (at (above ++ own)) cut_to zone)
  delegated_alike cut_to None = refl
  delegated_alike cut_to (Some zone) = by (is_prefix cut_to.cut zone.origin) where
    by : (b : Bool)
        → (if b then Go (Refer cut_to) (record (at (above ++ other)) { server = cut_to.ns; cut = length cut_to.cut; zone = Some zone.origin })
        else End (Some (Refer cut_to)) (Lame cut_to.ns))
        ≡ changed (if b then Go (Refer cut_to) (record (at (above ++ own)) { server = cut_to.ns; cut = length cut_to.cut; zone = Some zone.origin })
        else End (Some (Refer cut_to)) (Lame cut_to.ns))
    by true =
        ap (λ (name : Labels). Go (Refer cut_to) (record (at name) { server = cut_to.ns; cut = length cut_to.cut; zone = Some zone.origin }))
        (sym (retailed_tail above own other))
    by false = refl

  referred_alike : (cut_to : Cut) → referred setting (at (above ++ other)) cut_to ≡ changed (referred setting (at (above ++ own)) cut_to)
  referred_alike cut_to =
      by (is_configured setting.config cut_to.ns) (may_follow setting.config cut_to setting.followed) _ _
      (ap (delegated (at (above ++ other)) cut_to) (same_nearest cut_to.ns) ∙ delegated_alike cut_to (nearest_of setting.config cut_to.ns (above ++ own)))
    where
      by : (configured follow : Bool) (one two : Branch) → one ≡ changed two
          → (if not configured then End (Some (Refer cut_to)) (Unhosted cut_to.ns) else (if not follow then End (Some (Refer cut_to)) (NoAddress cut_to.ns) else one))
          ≡ changed (if not configured then End (Some (Refer cut_to)) (Unhosted cut_to.ns) else (if not follow then End (Some (Refer cut_to)) (NoAddress cut_to.ns) else two))
      by true true one two same = same
      by true false one two same = refl
      by false follow one two same = refl

  referral_alike : (zone_origin cut_name : Labels) (names : List Labels)
      → after_lookup setting (at (above ++ other)) zone_origin (found_as.Referral cut_name names)
      ≡ map changed (after_lookup setting (at (above ++ own)) zone_origin (found_as.Referral cut_name names))
  referral_alike zone_origin cut_name names =
      map_same (λ (ns : Labels). referred setting (at (above ++ other)) (record { server = server; zone = zone_origin; cut = cut_name; ns = ns }))
      (λ (ns : Labels). changed (referred setting (at (above ++ own)) (record { server = server; zone = zone_origin; cut = cut_name; ns = ns })))
      names (λ ns. referred_alike (record { server = server; zone = zone_origin; cut = cut_name; ns = ns }))
      ∙ sym (map-map changed (λ (ns : Labels). referred setting (at (above ++ own)) (record { server = server; zone = zone_origin; cut = cut_name; ns = ns })) names)

  -- ---- rewrites of an alias, and ends

  alias_alike : (to : Labels) (place : Place) (servers : List Labels)
      → map (λ (s : Labels). Go (Rewrite place false to) (arrived setting.config to false (used + 1) (Some place) s)) servers
      ≡ map changed (map (λ (s : Labels). Go (Rewrite place false to) (arrived setting.config to false (used + 1) (Some place) s)) servers)
  alias_alike to place servers =
      sym (map-map changed (λ (s : Labels). Go (Rewrite place false to) (arrived setting.config to false (used + 1) (Some place) s)) servers)

  -- what an existing name gives
  given_alike : (zone_origin owner : Labels) (target : Option Labels) (rdata : List Rdata)
      → after_lookup setting (at (above ++ other)) zone_origin (given owner target rdata)
      ≡ map changed (after_lookup setting (at (above ++ own)) zone_origin (given owner target rdata))
  given_alike zone_origin owner None [] = refl
  given_alike zone_origin owner None (first ∷ rest) = refl
  given_alike zone_origin owner (Some target) rdata = by (nat_lt used setting.rewrites) where
    place : Place
    place = record { server = server; zone = zone_origin; owner = owner }

    by : (b : Bool)
        → (if b then rewritten setting.config (at (above ++ other)) place false target else End None (Limit place) ∷ [])
        ≡ map changed (if b then rewritten setting.config (at (above ++ own)) place false target else End None (Limit place) ∷ [])
    by true = alias_alike target place (servers_after setting.config (at (above ++ own)) target)
    by false = refl

  -- ---- rewrites by a DNAME record

  module _ (place : Place) (to_above : Labels) where
    same_servers : AreNear setting.config to_above own other → (name : Labels)
        → servers_after setting.config (at name) (to_above ++ other) ≡ servers_after setting.config (at name) (to_above ++ own)
    same_servers same_target name = ap (λ (zone : Option Zone). if is_some zone then server ∷ [] else setting.config.tops) (same_target server)

    -- the branch at a server after the rewrite to a name, with the zone in which it is looked up
    abbrev branch_to : Labels → Labels → Option Zone → Branch
    branch_to to_server name zone =
        Go (Rewrite place true name)
        (record {
          server = to_server;
          name = name;
          carried = true;
          cut = 0;
          used = used + 1;
          last = Some place;
          zone = option_map (λ z. z.origin) zone;
        })

    branch_alike : AreNear setting.config to_above own other → (to_server : Labels)
        → branch_to to_server (to_above ++ other) (nearest_of setting.config to_server (to_above ++ other))
        ≡ changed (branch_to to_server (to_above ++ own) (nearest_of setting.config to_server (to_above ++ own)))
    branch_alike same_target to_server =
        ap (branch_to to_server (to_above ++ other)) (same_target to_server)
        ∙ ap (λ (name : Labels). branch_to to_server name (nearest_of setting.config to_server (to_above ++ own)))
        (sym (retailed_tail to_above own other))

    rewritten_alike : AreNear setting.config to_above own other
        → rewritten setting.config (at (above ++ other)) place true (to_above ++ other)
        ≡ map changed (rewritten setting.config (at (above ++ own)) place true (to_above ++ own))
    rewritten_alike same_target =
        map_same (λ (s : Labels). branch_to s (to_above ++ other) (nearest_of setting.config s (to_above ++ other)))
        (λ (s : Labels). changed (branch_to s (to_above ++ own) (nearest_of setting.config s (to_above ++ own))))
        (servers_after setting.config (at (above ++ other)) (to_above ++ other)) (branch_alike same_target)
        ∙ ap (map (λ (s : Labels). changed (branch_to s (to_above ++ own) (nearest_of setting.config s (to_above ++ own)))))
        (same_servers same_target (above ++ other))
        ∙ sym (map-map changed (λ (s : Labels). branch_to s (to_above ++ own) (nearest_of setting.config s (to_above ++ own)))
        (servers_after setting.config (at (above ++ own)) (to_above ++ own)))

    -- the branches after the rewrite, if some are left and the name isn't too long
    abbrev after : Bool → Bool → Labels → Labels → List Branch
    after left fits name to =
        if fits then (if left then rewritten setting.config (at name) place true to else End None (Limit place) ∷ [])
        else (if left then End None (Overlong place) ∷ [] else End None (Limit place) ∷ [])

    after_alike : (left fits_own fits_other : Bool) → (left ≡ true → fits_own ≡ true → AreNear setting.config to_above own other × (fits_other ≡ true))
        → Alike (length own) other true (after left fits_own (above ++ own) (to_above ++ own)) (after left fits_other (above ++ other) (to_above ++ other))
    after_alike true true true near = inl (rewritten_alike (near refl refl).0)
    after_alike true true false near = absurd (true≢false (sym (near refl refl).1))
    after_alike true false fits_other near = inr (place, refl)
    after_alike false true true near = inl refl
    after_alike false true false near = inl refl
    after_alike false false true near = inl refl
    after_alike false false false near = inl refl

  -- what a redirection gives for the query and for the other name
  redirected_alike : (zone_origin owner target below : Labels) → above ≡ owner ++ below
      → (nat_lt used setting.rewrites ≡ true → nat_le (wire_octets ((target ++ below) ++ own)) 255 ≡ true
      → AreNear setting.config (target ++ below) own other × (nat_le (wire_octets ((target ++ below) ++ other)) 255 ≡ true))
      → Alike (length own) other true (after_lookup setting (at (above ++ own)) zone_origin (redirected (above ++ own) owner (Some target)))
      (after_lookup setting (at (above ++ other)) zone_origin (redirected (above ++ other) owner (Some target)))
  redirected_alike zone_origin owner target below is near =
      subst (λ (of_query : List Branch). Alike (length own) other true of_query (after_lookup setting (at (above ++ other)) zone_origin (redirected (above ++ other) owner (Some target))))
      (sym (as_after own))
      (subst (λ (branches : List Branch). Alike (length own) other true (after place (target ++ below) (nat_lt used setting.rewrites) (nat_le (wire_octets ((target ++ below) ++ own)) 255) (above ++ own) ((target ++ below) ++ own)) branches)
      (sym (as_after other))
      (after_alike place (target ++ below) (nat_lt used setting.rewrites)
      (nat_le (wire_octets ((target ++ below) ++ own)) 255) (nat_le (wire_octets ((target ++ below) ++ other)) 255) near))
    where
      place : Place
      place = record { server = server; zone = zone_origin; owner = owner }

      swapped : (tail : Labels) → swap (above ++ tail) owner target ≡ (target ++ below) ++ tail
      swapped tail = ap (λ (x : Labels). swap (x ++ tail) owner target) is ∙ swapped_below owner target below tail

      as_after : (tail : Labels) → after_lookup setting (at (above ++ tail)) zone_origin (redirected (above ++ tail) owner (Some target))
          ≡ after place (target ++ below) (nat_lt used setting.rewrites) (nat_le (wire_octets ((target ++ below) ++ tail)) 255) (above ++ tail) ((target ++ below) ++ tail)
      as_after tail =
          ap (λ (to : Labels). after_lookup setting (at (above ++ tail)) zone_origin
          (if nat_le (wire_octets to) 255 then found_as.Rewrite true owner to else found_as.TooLong owner)) (swapped tail)
          ∙ by (nat_le (wire_octets ((target ++ below) ++ tail)) 255)
        where
          by : (b : Bool)
              → after_lookup setting (at (above ++ tail)) zone_origin (if b then found_as.Rewrite true owner ((target ++ below) ++ tail) else found_as.TooLong owner)
              ≡ after place (target ++ below) (nat_lt used setting.rewrites) b (above ++ tail) ((target ++ below) ++ tail)
          by true = refl
          by false = refl

  -- ---- whatever decides

  records_alike : (zone : Zone) (rtype : RrType) (owner : Labels)
      → after_lookup setting (at (above ++ other)) zone.origin (at_name zone owner rtype)
      ≡ map changed (after_lookup setting (at (above ++ own)) zone.origin (at_name zone owner rtype))
  records_alike zone rtype owner =
      by (if type_eq rtype types.Cname then None else first_name (targets_at zone owner types.Cname))
    where
      by : (target : Option Labels)
          → after_lookup setting (at (above ++ other)) zone.origin (aliased zone owner rtype target)
          ≡ map changed (after_lookup setting (at (above ++ own)) zone.origin (aliased zone owner rtype target))
      by None = given_alike zone.origin owner None (in_order data_cmp (data_at zone owner rtype))
      by (Some target) = given_alike zone.origin owner (Some target) []

  decision_alike : StaysNear setting server used above own other → (zone : Zone) (rtype : RrType) → nearest_of setting.config server above ≡ Some zone
      → (decides : Deciding) → open_deciding zone above ≡ decides → IsKnownAbove setting.config above decides
      → Alike (length own) other true (after_lookup setting (at (above ++ own)) zone.origin (answered zone (above ++ own) rtype decides))
      (after_lookup setting (at (above ++ other)) zone.origin (answered zone (above ++ other) rtype decides))
  decision_alike stays zone rtype nearest (ByCut cut_name) is known = inl (referral_alike zone.origin cut_name (ns_names zone cut_name))
  decision_alike stays zone rtype nearest (ByRedirection owner None) is known = inl refl
  decision_alike stays zone rtype nearest (ByRedirection owner (Some target)) decided (below, is, known) =
      redirected_alike zone.origin owner target below is (stays zone nearest owner target below decided is)
  decision_alike stays zone rtype nearest (ByRecords owner) is known = inl (records_alike zone rtype owner)
  decision_alike stays zone rtype nearest ByNothing is known = inl refl

  -- the step of the state at the query and at the other name
  pub carried_alike : StaysNear setting server used above own other → (rtype : RrType)
      → Alike (length own) other true (next setting rtype (at (above ++ own))) (next setting rtype (at (above ++ other)))
  carried_alike stays rtype =
      subst (λ (zone : Option Zone). Alike (length own) other true (next setting rtype (at (above ++ own))) (in_zone setting rtype (at (above ++ other)) zone))
      (sym (both.near_other server))
      (subst (λ (zone : Option Zone). Alike (length own) other true (in_zone setting rtype (at (above ++ own)) zone) (in_zone setting rtype (at (above ++ other)) (nearest_of setting.config server above)))
      (sym (both.near_own server))
      (by (nearest_of setting.config server above) refl))
    where
      by : (zone : Option Zone) → nearest_of setting.config server above ≡ zone
          → Alike (length own) other true (in_zone setting rtype (at (above ++ own)) zone) (in_zone setting rtype (at (above ++ other)) zone)
      by None nearest = inl refl
      by (Some zone) nearest =
          subst (λ (decides : Deciding). Alike (length own) other true (after_lookup setting (at (above ++ own)) zone.origin (answered zone (above ++ own) rtype decides))
          (in_zone setting rtype (at (above ++ other)) (Some zone)))
          (sym (open_tail zone above own (both.open_own zone nearest)))
          (subst (λ (decides : Deciding). Alike (length own) other true (after_lookup setting (at (above ++ own)) zone.origin (answered zone (above ++ own) rtype (open_deciding zone above)))
          (after_lookup setting (at (above ++ other)) zone.origin (answered zone (above ++ other) rtype decides)))
          (sym (open_tail zone above other (both.open_other zone nearest)))
          (decision_alike stays zone rtype nearest (open_deciding zone above) refl
          (known_above setting.config zone above (nearest_tells setting.config server above zone nearest).0)))

-- the name has the query's tail, and it and the other one are unnamed below the labels above
pub record Carries (config : Config) (own other name : Labels) : Type 0 where
  pub above : Labels
  pub is : name ≡ above ++ own
  pub of_own : IsUnnamedTail config above own
  pub of_other : IsUnnamedTail config above other

-- the name of a state that carries the query's last labels has the query's tail, unnamed below the labels above it
abbrev pub Follows : Config → Labels → Labels → State → Type 0
Follows config own other state = state.carried ≡ true → Carries config own other state.name

module _ (setting : Setting) (rtype : RrType) (own other : Labels) where
  -- each state that follows on a state whose name isn't carried is so too
  pub uncarried_on : (state : State) → state.carried ≡ false
      → AllByRecursion (LeadsSo (λ to. to.carried ≡ false) (λ leaf. Unit {0})) (next setting rtype state)
  uncarried_on state uncarried =
      each_branch setting rtype state (LeadsSo (λ to. to.carried ≡ false) (λ leaf. Unit {0})) (λ leaf. tt) (λ cut leaf. tt)
      (λ zone below cut ns names looks delegated. uncarried)
      (λ zone by_dname owner to server looks left has. ap (λ (b : Bool). b && by_dname) uncarried)

  -- so its branches are the same with the tail replaced
  branch_stays : (branch : Branch) → LeadsSo (λ to. to.carried ≡ false) (λ leaf. Unit {0}) branch → branch ≡ retailed_branch (length own) other false branch
  branch_stays (Go hop to) uncarried =
      ap (λ (h : Hop). Go h to) (hop_stays hop) ∙ ap (λ (t : State). Go (retailed_hop (length own) other false hop) t) (state_stays (to.carried) refl)
    where
      hop_stays : (hop : Hop) → hop ≡ retailed_hop (length own) other false hop
      hop_stays (Refer cut) = refl
      hop_stays (Rewrite place by_dname name) = refl

      state_stays : (b : Bool) → to.carried ≡ b → to ≡ (if b then record to { name = retailed_name (length own) other to.name } else to)
      state_stays true carried = absurd (true≢false (sym carried ∙ uncarried))
      state_stays false carried = refl
  branch_stays (End None leaf) uncarried = refl
  branch_stays (End (Some (Refer cut)) leaf) uncarried = refl
  branch_stays (End (Some (Rewrite place by_dname name)) leaf) uncarried = refl

  pub branches_stay : (branches : List Branch) → AllByRecursion (LeadsSo (λ to. to.carried ≡ false) (λ leaf. Unit {0})) branches
      → branches ≡ map (retailed_branch (length own) other false) branches
  branches_stay [] each = refl
  branches_stay (branch ∷ rest) each =
      ap (λ (b : Branch). b ∷ rest) (branch_stays branch each.0)
      ∙ ap (λ (bs : List Branch). retailed_branch (length own) other false branch ∷ bs) (branches_stay rest each.1)

  -- unnamed tails are open
  opens : (above server : Labels) → IsUnnamedTail setting.config above own → IsUnnamedTail setting.config above other → AreOpen setting.config server above own other
  opens above server of_own of_other =
      record {
        near_own = nearest_with_tail setting.config above own of_own;
        near_other = nearest_with_tail setting.config above other of_other;
        open_own = λ zone nearest. opens_in setting.config above own server zone of_own nearest;
        open_other = λ zone nearest. opens_in setting.config above other server zone of_other nearest;
      }

  -- and stay so
  stays : (above server : Labels) → IsUnnamedTail setting.config above own → IsUnnamedTail setting.config above other → (zone : Zone)
      → nearest_of setting.config server above ≡ Some zone → (owner target below : Labels) → open_deciding zone above ≡ ByRedirection owner (Some target)
      → above ≡ owner ++ below → AreNear setting.config (target ++ below) own other
  stays above server of_own of_other zone nearest owner target below decided is ns =
      let known =
      subst (IsKnownAbove setting.config above) decided (known_above setting.config zone above (nearest_tells setting.config server above zone nearest).0) in
      nearest_with_tail setting.config (target ++ below) other (kept known.0 known.1 known.2 other of_other) ns
      ∙ sym (nearest_with_tail setting.config (target ++ below) own (kept known.0 known.1 known.2 own of_own) ns)
    where
      kept : (rest : Labels) → above ≡ owner ++ rest → Contains (redirections_of setting.config) (record { owner = owner; target = target })
          → (tail : Labels) → IsUnnamedTail setting.config above tail → IsUnnamedTail setting.config (target ++ below) tail
      kept rest other_is known tail unnamed =
          redirected_tail setting.config owner target below tail known
          (subst (λ (x : Labels). IsUnnamedTail setting.config x tail) is unnamed)

  -- a state and the state with the tail replaced have the same branches, but for the tail, unless the query's end
  -- overlong
  pub alike : (state : State) → tail_octets other ≤ tail_octets own → Follows setting.config own other state
      → Alike (length own) other state.carried (next setting rtype state) (next setting rtype (retailed_state (length own) other state))
  alike state shorter follows = by state.carried refl where
    by : (b : Bool) → state.carried ≡ b
        → Alike (length own) other b (next setting rtype state)
        (next setting rtype (if b then record state { name = retailed_name (length own) other state.name } else state))
    by true carried =
        let has = follows carried in
        let same : state ≡ record state { name = has.above ++ own; carried = true } =
        ap (λ (name : Labels). record state { name = name }) has.is ∙ ap (λ (b : Bool). record state { name = has.above ++ own; carried = b }) carried in
        let changed : record state { name = retailed_name (length own) other state.name } ≡ record state { name = has.above ++ other; carried = true } =
        ap (λ (name : Labels). record state { name = retailed_name (length own) other name }) has.is
        ∙ ap (λ (name : Labels). record state { name = name }) (retailed_tail has.above own other)
        ∙ ap (λ (b : Bool). record state { name = has.above ++ other; carried = b }) carried in
        subst₂ (λ (s t : State). Alike (length own) other true (next setting rtype s) (next setting rtype t)) (sym same) (sym changed)
        (carried_alike setting has.above own other state.server (opens has.above state.server has.of_own has.of_other) state.cut state.used state.last state.zone
        (λ zone nearest owner target below decided is left fits. (
          stays has.above state.server has.of_own has.of_other zone nearest owner target below decided is,
          le-leb (wire_octets ((target ++ below) ++ other)) 255
              (omega (arith, leb-true (wire_octets ((target ++ below) ++ own)) 255 fits, octets_below (target ++ below) own, octets_below (target ++ below) other, shorter)),
        )) rtype)
    by false uncarried = inl (branches_stay (next setting rtype state) (uncarried_on state uncarried))

  -- what a name with the query's tail is rewritten to by a DNAME record has the tail
  module _ (config : Config) (above owner to : Labels) (of_own : IsUnnamedTail config above own) (of_other : IsUnnamedTail config above other) where
    target_carries : (by target below : Labels) → above ≡ by ++ below → Contains (redirections_of config) (record { owner = by; target = target })
        → (fits : Bool) → (if fits then found_as.Rewrite true by (swap (above ++ own) by target) else found_as.TooLong by) ≡ found_as.Rewrite true owner to
        → Carries config own other to
    target_carries by target below is known false e = cc
    target_carries by target below is known true e =
        let same : swap (above ++ own) by target ≡ to = cc in
        record {
          above = target ++ below;
          is = sym same ∙ ap (λ (x : Labels). swap (x ++ own) by target) is ∙ swapped_below by target below own;
          of_own = redirected_tail config by target below own known (subst (λ (x : Labels). IsUnnamedTail config x own) is of_own);
          of_other = redirected_tail config by target below other known (subst (λ (x : Labels). IsUnnamedTail config x other) is of_other);
        }

    no_dname : (zone : Zone) (at : Labels) (target : Option Labels) → aliased zone at rtype target ≡ found_as.Rewrite true owner to → ⊥
    no_dname zone at (Some target) e = cc
    no_dname zone at None e = by (in_order data_cmp (data_at zone at rtype)) e where
      by : (rdata : List Rdata) → answer_of rdata ≡ found_as.Rewrite true owner to → ⊥
      by [] e = cc
      by (first ∷ rest) e = cc

    decision_carries : (zone : Zone) (decides : Deciding) → IsKnownAbove config above decides
        → answered zone (above ++ own) rtype decides ≡ found_as.Rewrite true owner to → Carries config own other to
    decision_carries zone (ByCut cut) known e = cc
    decision_carries zone (ByRedirection by None) known e = cc
    decision_carries zone (ByRedirection by (Some target)) (below, is, known) e =
        target_carries by target below is known (nat_le (wire_octets (swap (above ++ own) by target)) 255) e
    decision_carries zone (ByRecords at) known e =
        absurd (no_dname zone at (if type_eq rtype types.Cname then None else first_name (targets_at zone at types.Cname)) e)
    decision_carries zone ByNothing known e = cc

  rewritten_carries : (state : State) → Follows setting.config own other state → (zone : Zone) (by_dname : Bool) (owner to : Labels)
      → LooksUp setting rtype state zone (found_as.Rewrite by_dname owner to) → (state.carried && by_dname) ≡ true → Carries setting.config own other to
  rewritten_carries state follows zone by_dname owner to looks both =
      let flags = and_parts state.carried by_dname both in
      let has = follows flags.0 in
      let nearest : nearest_of setting.config state.server has.above ≡ Some zone =
      sym (nearest_with_tail setting.config has.above own has.of_own state.server)
      ∙ ap (nearest_of setting.config state.server) (sym has.is) ∙ looks.nearest in
      decision_carries setting.config has.above owner to has.of_own has.of_other zone (open_deciding zone has.above)
      (known_above setting.config zone has.above (nearest_tells setting.config state.server has.above zone nearest).0)
      (ap (answered zone (has.above ++ own) rtype) (sym (open_tail zone has.above own (opens_in setting.config has.above own state.server zone has.of_own nearest)))
      ∙ ap (λ (name : Labels). found zone name rtype) (sym has.is) ∙ looks.is ∙ ap (λ (b : Bool). found_as.Rewrite b owner to) flags.1)

  -- if a state carries the query's unnamed tail, each state to which a branch of it leads does
  pub follows_on : (state : State) → Follows setting.config own other state → (number : ℕ) (hop : Hop) (to : State)
      → slice_get (next setting rtype state) number ≡ Some (Go hop to) → Follows setting.config own other to
  follows_on state follows number hop to is =
      item (LeadsSo (Follows setting.config own other) (λ leaf. Unit {0})) (next setting rtype state) number (Go hop to)
      (each_branch setting rtype state (LeadsSo (Follows setting.config own other) (λ leaf. Unit {0})) (λ leaf. tt) (λ cut leaf. tt)
      (λ zone below cut ns names looks delegated. follows)
      (λ zone by_dname owner name server looks left has both. rewritten_carries state follows zone by_dname owner name looks both)) is
