-- The data of an answer in which a walk ends are in order: so answers are compared as sets of data.
use Rattle.std.proofs.Common.{◌≡◌, ◌≢◌, ◌↔◌, ◌+◌, Bool, true, false, not, cond, List, [], ◌∷◌, map, Contains, AllPairs, Option, Some, None, Less, refl, sym, ap, subst}
use Rattle.std.specs.Prelude.{◌&&◌, nat_le, nat_lt, length, if◌then◌else◌}
use Rattle.std.specs.List.{AllByRecursion}
use Rattle.dns_data.specs.Name.{Labels, wire_octets, swap, is_prefix}
use Rattle.dns_data.specs.RrType.{type_eq}
use Rattle.dns_data.specs.declared.rdata.Rdata.{Rdata}
use Rattle.dns_data.specs.declared.rr_type.RrType.{RrType}
use Rattle.dns_data.specs.declared.rr_type.RrType.TheVariants as types
use Rattle.dns_data.proofs.Membership.{all_images}
use Rattle.dns_data.proofs.OrderedLists.{same_rising}
use Rattle.net_model.specs.declared.config.Zone.{Zone}
use Rattle.net_model.specs.declared.found.Found.{Found}
use Rattle.net_model.specs.declared.found.Found.TheVariants as found_as
use Rattle.net_model.specs.declared.place.Cut.{Cut}
use Rattle.net_model.specs.declared.walk.Hop.TheVariants.{Refer, Rewrite}
use Rattle.net_model.specs.declared.walk.Leaf.{Leaf}
use Rattle.net_model.specs.declared.walk.Leaf.TheVariants as leaves
use Rattle.net_model.specs.declared.walk.State.{State}
use Rattle.net_model.specs.declared.walk.Walk.{Walk}
use Rattle.net_model.specs.Lookup.{Deciding, ByCut, ByRedirection, ByRecords, ByNothing, answered, deciding, found, redirected, aliased, answer_of, first_name}
use Rattle.net_model.specs.Nearest.{nearest_of, is_configured}
use Rattle.net_model.specs.Order.{in_order}
use Rattle.net_model.specs.Shown.{is_authoritative, ShowsAnswers}
use Rattle.net_model.specs.Step.{Setting, Branch, Go, End, arrived, delegated, referred, may_follow, servers_after, after_lookup, in_zone, next}
use Rattle.net_model.specs.Walk.{IsWalk}
use Rattle.net_model.specs.Zone.{data_at, targets_at, data_cmp}
use Rattle.net_model.proofs.WalkEnds.{LeadsSo, item, walk_ends}
use Rattle.plain_words.specs.Same.{HaveSame, TellApart}
use Rattle.plain_words.proofs.DataTold.{data_total}
use Rattle.plain_words.proofs.OrderedItems.{order_rises}

-- ---- what a zone answers

module _ (zone : Zone) (name : Labels) (rtype : RrType) (rdata : List Rdata) where
  answer_is : (all : List Rdata) → answer_of all ≡ found_as.Answer rdata → all ≡ rdata
  answer_is [] e = cc
  answer_is (first ∷ rest) e = cc

  alias_answers : (owner : Labels) (target : Option Labels) → aliased zone owner rtype target ≡ found_as.Answer rdata → in_order data_cmp (data_at zone owner rtype) ≡ rdata
  alias_answers owner (Some target) e = cc
  alias_answers owner None e = answer_is (in_order data_cmp (data_at zone owner rtype)) e

  redirection_answers : (owner : Labels) (target : Option Labels) → redirected name owner target ≡ found_as.Answer rdata → ⊥
  redirection_answers owner None e = cc
  redirection_answers owner (Some target) e = by (nat_le (wire_octets (swap name owner target)) 255) e where
    by : (b : Bool) → cond b (found_as.Rewrite true owner (swap name owner target)) (found_as.TooLong owner) ≡ found_as.Answer rdata → ⊥
    by true e = cc
    by false e = cc

  -- an answer has the data of the type of some owner, in order
  answer_by : (what : Deciding) → answered zone name rtype what ≡ found_as.Answer rdata → (owner : Labels) × (in_order data_cmp (data_at zone owner rtype) ≡ rdata)
  answer_by (ByCut cut) e = cc
  answer_by (ByRedirection owner target) e = absurd (redirection_answers owner target e)
  answer_by (ByRecords owner) e = (owner, alias_answers owner (if type_eq rtype types.Cname then None else first_name (targets_at zone owner types.Cname)) e)
  answer_by ByNothing e = cc

-- ---- the ends of walks

-- the data of an answer are in order
abbrev AreAnswered : List Rdata → Type 0
AreAnswered rdata = AllPairs (λ a b. data_cmp a b ≡ Less) rdata

-- so they are if the end is an answer
abbrev EndsSo : Leaf → Type 0
EndsSo (leaves.Answer rdata) = AreAnswered rdata
EndsSo leaf = Unit {0}

abbrev BranchesSo : Branch → Type 0
BranchesSo branch = LeadsSo (λ state. Unit {0}) EndsSo branch

module _ (setting : Setting) (rtype : RrType) where
  in_zone_of : (zone : Zone) (name : Labels) (rdata : List Rdata) → found zone name rtype ≡ found_as.Answer rdata → AreAnswered rdata
  in_zone_of zone name rdata e =
      let (owner, is) = answer_by zone name rtype rdata (deciding zone name) e in
      subst AreAnswered is (order_rises data_cmp data_total (data_at zone owner rtype))

  each_referred : (state : State) (cut : Cut) → BranchesSo (referred setting state cut)
  each_referred state cut = by (is_configured setting.config cut.ns) (may_follow setting.config cut setting.followed) (each_delegated (nearest_of setting.config cut.ns state.name)) where
    each_delegated : (zone : Option Zone) → BranchesSo (delegated state cut zone)
    each_delegated None = tt
    each_delegated (Some zone) = by (is_prefix cut.cut zone.origin) where
      by : (b : Bool) → BranchesSo (if b then Go (Refer cut) (record state { server = cut.ns; cut = length cut.cut; zone = Some zone.origin }) else End (Some (Refer cut)) (leaves.Lame cut.ns))
      by true = tt
      by false = tt

    by : (configured follow : Bool) → BranchesSo (delegated state cut (nearest_of setting.config cut.ns state.name))
        → BranchesSo (if not configured then End (Some (Refer cut)) (leaves.Unhosted cut.ns)
        else (if not follow then End (Some (Refer cut)) (leaves.NoAddress cut.ns) else delegated state cut (nearest_of setting.config cut.ns state.name)))
    by false follow is = tt
    by true false is = tt
    by true true is = is

  each_after : (state : State) (zone : Zone) (finds : Found) → found zone state.name rtype ≡ finds
      → AllByRecursion (BranchesSo) (after_lookup setting state zone.origin finds)
  each_after state zone (found_as.Answer rdata) e = (in_zone_of zone state.name rdata e, tt)
  each_after state zone found_as.NoData e = (tt, tt)
  each_after state zone found_as.NxDomain e = (tt, tt)
  each_after state zone (found_as.Referral cut names) e =
      all_images (λ (ns : Labels). referred setting state (record { server = state.server; zone = zone.origin; cut = cut; ns = ns })) (BranchesSo) names
      (λ ns has. each_referred state (record { server = state.server; zone = zone.origin; cut = cut; ns = ns }))
  each_after state zone (found_as.Rewrite by_dname owner to) e = by (nat_lt state.used setting.rewrites) where
    by : (left : Bool) → AllByRecursion (BranchesSo)
        (if left then map (λ (server : Labels). Go (Rewrite (record { server = state.server; zone = zone.origin; owner = owner }) by_dname to)
        (arrived setting.config to (state.carried && by_dname) (state.used + 1) (Some (record { server = state.server; zone = zone.origin; owner = owner })) server)) (servers_after setting.config state to)
        else End None (leaves.Limit (record { server = state.server; zone = zone.origin; owner = owner })) ∷ [])
    by true =
        all_images (λ (server : Labels). Go (Rewrite (record { server = state.server; zone = zone.origin; owner = owner }) by_dname to)
        (arrived setting.config to (state.carried && by_dname) (state.used + 1) (Some (record { server = state.server; zone = zone.origin; owner = owner })) server))
        (BranchesSo) (servers_after setting.config state to) (λ server has. tt)
    by false = (tt, tt)
  each_after state zone (found_as.TooLong owner) e = by (nat_lt state.used setting.rewrites) where
    by : (left : Bool) → AllByRecursion (BranchesSo) (if left then End None (leaves.Overlong (record { server = state.server; zone = zone.origin; owner = owner })) ∷ []
        else End None (leaves.Limit (record { server = state.server; zone = zone.origin; owner = owner })) ∷ [])
    by true = (tt, tt)
    by false = (tt, tt)

  each_next : (state : State) → AllByRecursion (BranchesSo) (next setting rtype state)
  each_next state = by (nearest_of setting.config state.server state.name) refl where
    by : (zone : Option Zone) → nearest_of setting.config state.server state.name ≡ zone → AllByRecursion (BranchesSo) (in_zone setting rtype state zone)
    by None e = (tt, tt)
    by (Some zone) e = each_after state zone (found zone state.name rtype) refl

  -- the end of a walk is so
  walk_ends_so : (query : Labels) (walk : Walk) → IsWalk setting query rtype walk → EndsSo walk.leaf
  walk_ends_so query walk (numbers, along) =
      walk_ends setting rtype (λ state. Unit {0}) (EndsSo)
      (λ state so number branch is. item (BranchesSo) (next setting rtype state) number branch (each_next state) is)
      query (λ number state is. tt) numbers walk along

  -- ---- two ends

  -- two answers are one exactly if they have the same data
  same_answers : (one other : List Rdata) → AreAnswered one → AreAnswered other → (one ≡ other) ↔ HaveSame one other
  same_answers one other p q = (
    λ same item. (
      (λ has. subst (λ (all : List Rdata). Contains all item) same has),
      (λ has. subst (λ (all : List Rdata). Contains all item) (sym same) has),
    ),
    λ both. same_rising data_cmp data_total one other p q (λ item has. (both item).0 has) (λ item has. (both item).1 has),
  )

  -- ends of which each has what a zone has are told apart exactly if they differ
  ends_apart : (one other : Leaf) → EndsSo one → EndsSo other → is_authoritative one ≡ true → is_authoritative other ≡ true
      → (one ≢ other) ↔ TellApart one other
  ends_apart (leaves.Answer one) (leaves.Answer other) p q a b = (
    λ differ both. differ (ap leaves.Answer ((same_answers one other p q).1 both)),
    λ apart same. apart ((same_answers one other p q).0 (let e : one ≡ other = cc in e)),
  )
  ends_apart (leaves.Answer one) leaves.NoData p q a b = (λ differ. tt, λ apart same. cc)
  ends_apart (leaves.Answer one) leaves.NxDomain p q a b = (λ differ. tt, λ apart same. cc)
  ends_apart leaves.NoData (leaves.Answer other) p q a b = (λ differ. tt, λ apart same. cc)
  ends_apart leaves.NoData leaves.NoData p q a b = (λ differ. differ refl, λ apart. absurd apart)
  ends_apart leaves.NoData leaves.NxDomain p q a b = (λ differ. tt, λ apart same. cc)
  ends_apart leaves.NxDomain (leaves.Answer other) p q a b = (λ differ. tt, λ apart same. cc)
  ends_apart leaves.NxDomain leaves.NoData p q a b = (λ differ. tt, λ apart same. cc)
  ends_apart leaves.NxDomain leaves.NxDomain p q a b = (λ differ. differ refl, λ apart. absurd apart)
  ends_apart one other p q a b = cc

  -- answers of two walks differ exactly if both have what a zone has, and are told apart
  pub answers_apart : (query beside : Labels) (one other : Walk) → IsWalk setting query rtype one → IsWalk setting beside rtype other
      → ShowsAnswers one other ↔ ((is_authoritative one.leaf ≡ true) × (is_authoritative other.leaf ≡ true) × TellApart one.leaf other.leaf)
  answers_apart query beside one other is_one is_other =
      let apart : is_authoritative one.leaf ≡ true → is_authoritative other.leaf ≡ true → (one.leaf ≢ other.leaf) ↔ TellApart one.leaf other.leaf =
      ends_apart one.leaf other.leaf (walk_ends_so query one is_one) (walk_ends_so beside other is_other) in (
        λ shows. (shows.first, shows.second, (apart shows.first shows.second).0 shows.differ),
        λ (first, second, told). record { first = first; second = second; differ = (apart first second).1 told },
      )
