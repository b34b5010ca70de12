-- A name rests if its walks end at the top servers, where they begin: which walks it has, and whether its address is
-- learnt.
use Rattle.std.proofs.Common.{◌≡◌, ℕ, ◌*◌, ◌≤◌, Bool, true, false, cond, List, [], ◌∷◌, ◌++◌, length, map, filter, Contains, Option, None, Some, Bor, Ordering, Less, Equal, Greater, lt-ltb, true≢false, inl, inr, refl, sym, ap, ◌∙◌, subst, arith, length-append}
use Rattle.std.specs.Prelude.{◌||◌, nat_lt, is_some, IsSome}
use Rattle.std.specs.List.{AllByRecursion, flat_map, list_any}
use Rattle.std.proofs.Math.Bool.{or-false, or-true}
use Rattle.std.proofs.lemmas.Bool.{or_cases}
use Rattle.std.proofs.lemmas.Bool.Decides.{nat_tests}
use Rattle.std.proofs.lemmas.List.{length-map}
use Rattle.std.proofs.lemmas.List.Sums.{count_by-le-length, length-filter}
use Rattle.dns_data.specs.Name.{Labels}
use Rattle.dns_data.specs.RrType.{types, type_eq}
use Rattle.dns_data.specs.declared.rdata.Rdata.{Rdata}
use Rattle.dns_data.specs.declared.rdata.Rr.{Rr}
use Rattle.dns_data.specs.declared.rr_type.RrType.{RrType}
use Rattle.dns_data.specs.declared.rr_type.RrType.TheVariants as rtypes
use Rattle.dns_data.proofs.Membership.{first_or_later, flat_map_has, from_map, has_first, has_later, map_has, none_in_nil}
use Rattle.dns_data.proofs.Searches.{from_any}
use Rattle.net_model.specs.declared.config.Config.{Config}
use Rattle.net_model.specs.declared.config.Zone.{Zone}
use Rattle.net_model.specs.declared.walk.Leaf.{Leaf}
use Rattle.net_model.specs.declared.walk.Leaf.TheVariants.{NxDomain, Outside}
use Rattle.net_model.specs.declared.walk.State.{State}
use Rattle.net_model.specs.declared.walk.Walk.{Walk}
use Rattle.net_model.specs.Learnt.{gives_address}
use Rattle.net_model.specs.Lookup.{answer_of}
use Rattle.net_model.specs.Nearest.{nearest_of, server_names}
use Rattle.net_model.specs.Order.{beside, in_order, put_in_order}
use Rattle.net_model.specs.Step.{Branch, End, Setting, after_lookup, arrived, following, start}
use Rattle.net_model.specs.Tree.{HasMoreThan, IsReached}
use Rattle.net_model.specs.Walk.{AreWalks, walk_along}
use Rattle.net_model.specs.Zone.{data_at, data_cmp, has_address, is_of, owns}
use Rattle.net_model.proofs.AllWalks.{LeadsTo, Settled, walks_by, walks_within}
use Rattle.net_model.proofs.Counting.{no_more_than}
use Rattle.net_model.proofs.WalkLists.{are_walks}
use Rattle.zone_tree.specs.Tree.{ZoneTree, name_of}
use Rattle.zone_tree.proofs.Types.{among_types, one_type}
use Rattle.zone_lookup.specs.Reply.{IsReply}
use Rattle.zone_lookup.specs.declared.reply.Reply.TheVariants as reply
use Rattle.zone_lookup.specs.Resting.{AreEnds, EndsAt, Rests, data_leaf, records_leaf}
use Rattle.zone_lookup.specs.Tops.{HasLike, StandsForTops, tops_holding}
use Rattle.zone_lookup.proofs.ListedWalks.{is_listed, learns_told, no_more_listed}
use Rattle.zone_lookup.proofs.Replying.{nothing_ends, outside_ends, records_answer}

-- ---- where walks end at a server

-- data end a walk
data_end : (all : List Rdata) (setting : Setting) (state : State) (origin : Labels) → after_lookup setting state origin (answer_of all) ≡ End None (data_leaf all) ∷ []
data_end [] setting state origin = refl
data_end (first ∷ rest) setting state origin = refl

-- in an address, unless there are none
given_some : (items : List Rdata) (rdata : Rdata) → gives_address (data_leaf (put_in_order data_cmp rdata items)) ≡ true
given_some [] rdata = refl
given_some (item ∷ items) rdata = by (data_cmp rdata item) where
  by : (o : Ordering) → gives_address (data_leaf (beside rdata item items (put_in_order data_cmp rdata items) o)) ≡ true
  by Less = refl
  by Equal = refl
  by Greater = refl

-- a name owns data of a type exactly where a walk ends in them
owned_given : (name : Labels) (rtype : RrType) (rrs : List Rr)
    → list_any (is_of name rtype) rrs ≡ gives_address (data_leaf (in_order data_cmp (map (λ rr. rr.rdata) (filter (is_of name rtype) rrs))))
owned_given name rtype [] = refl
owned_given name rtype (rr ∷ rrs) = by (is_of name rtype rr) (owned_given name rtype rrs) where
  by : (b : Bool) → list_any (is_of name rtype) rrs ≡ gives_address (data_leaf (in_order data_cmp (map (λ rr. rr.rdata) (filter (is_of name rtype) rrs))))
      → (b || list_any (is_of name rtype) rrs)
      ≡ gives_address (data_leaf (in_order data_cmp (map (λ (r : Rr). r.rdata) (cond b (rr ∷ filter (is_of name rtype) rrs) (filter (is_of name rtype) rrs)))))
  by true rest = sym (given_some (in_order data_cmp (map (λ (r : Rr). r.rdata) (filter (is_of name rtype) rrs))) rr.rdata)
  by false rest = rest

-- so a name owns an address exactly where one is given
pub owned_address_given : (tree : ZoneTree) (owner : ℕ)
    → has_address tree.zone (name_of tree owner) ≡ (gives_address (records_leaf tree owner rtypes.A) || gives_address (records_leaf tree owner rtypes.Aaaa))
owned_address_given tree owner =
    ap (λ (b : Bool). b || owns tree.zone (name_of tree owner) rtypes.Aaaa) (owned_given (name_of tree owner) rtypes.A tree.zone.rrs)
    ∙ ap (λ (b : Bool). gives_address (records_leaf tree owner rtypes.A) || b) (owned_given (name_of tree owner) rtypes.Aaaa tree.zone.rrs)

module _ (config : Config) (name server : Labels) where
  pub outside_ends_at : IsReply config server name reply.Outside → EndsAt config name server true
  outside_ends_at so = record {
    leaf = λ rtype. Outside;
    ends = λ other same rewrites followed rtype.
        outside_ends (following config rewrites followed) (arrived config name true 0 None other) rtype (same ∙ so);
    is_given = refl;
  }

  pub nothing_ends_at : (tree : Bor ZoneTree) → IsReply config server name (reply.Nothing tree) → EndsAt config name server false
  nothing_ends_at tree so = record {
    leaf = λ rtype. NxDomain;
    ends = λ other same rewrites followed rtype.
        nothing_ends (following config rewrites followed) (arrived config name true 0 None other) rtype tree (same ∙ so.0, so.1);
    is_given = refl;
  }

  pub records_end_at : (tree : Bor ZoneTree) (owner : ℕ) → IsReply config server name (reply.Records tree owner) → (gives : Bool)
      → gives ≡ (gives_address (records_leaf tree.now owner rtypes.A) || gives_address (records_leaf tree.now owner rtypes.Aaaa)) → EndsAt config name server gives
  records_end_at tree owner so gives is = record {
    leaf = records_leaf tree.now owner;
    ends = λ other same rewrites followed rtype.
        records_answer (following config rewrites followed) (arrived config name true 0 None other) rtype tree owner (same ∙ so.0, so.1)
        ∙ data_end (in_order data_cmp (data_at tree.now.zone (name_of tree.now owner) rtype)) (following config rewrites followed)
        (arrived config name true 0 None other) tree.now.zone.origin;
    is_given = is;
  }

-- ---- the walks that begin at some servers

module _ (config : Config) (name : Labels) where
  -- one server more
  pub ends_more : (servers : List Labels) (server : Labels) (given here : Bool) → AreEnds config name servers given → EndsAt config name server here
      → AreEnds config name (servers ++ server ∷ []) (given || here)
  ends_more [] server given here is ends = (here, false, ends, refl, ap (λ (b : Bool). b || here) is ∙ sym (or-false here))
  ends_more (first ∷ servers) server given here (one, later, at_first, behind, is) ends =
      (one, later || here, at_first, ends_more servers server later here behind ends, ap (λ (b : Bool). b || here) is ∙ in_turn one later here)
    where
      in_turn : (a b c : Bool) → ((a || b) || c) ≡ (a || (b || c))
      in_turn true b c = refl
      in_turn false b c = refl

  -- the state in which walks begin at a server
  abbrev begins_at : Labels → State
  begins_at server = arrived config name true 0 None server

  -- their one walk with the type for each server
  abbrev walks_at : (servers : List Labels) (given : Bool) → AreEnds config name servers given → RrType → List Walk
  walks_at [] given are rtype = []
  walks_at (server ∷ servers) given (here, later, ends, behind, is) rtype =
      record { states = begins_at server ∷ []; hops = []; leaf = ends.leaf rtype } ∷ walks_at servers later behind rtype

  -- no other state stands on them
  states_are : (servers : List Labels) (given : Bool) (are : AreEnds config name servers given) (rtype : RrType)
      → map (λ (walk : Walk). walk.states) (walks_at servers given are rtype) ≡ map (λ (state : State). state ∷ []) (map begins_at servers)
  states_are [] given are rtype = refl
  states_are (server ∷ servers) given (here, later, ends, behind, is) rtype =
      ap (λ (all : List (List State)). (begins_at server ∷ []) ∷ all) (states_are servers later behind rtype)

  -- it's told whether one with an address type gives an address
  given_by_walks : (servers : List Labels) (given : Bool) (are : AreEnds config name servers given)
      → given ≡ (list_any (λ (walk : Walk). gives_address walk.leaf) (walks_at servers given are rtypes.A)
      || list_any (λ (walk : Walk). gives_address walk.leaf) (walks_at servers given are rtypes.Aaaa))
  given_by_walks [] given are = are
  given_by_walks (server ∷ servers) given (here, later, ends, behind, is) =
      is ∙ ap (λ (b : Bool). b || later) ends.is_given
      ∙ ap (λ (b : Bool). (gives_address (ends.leaf rtypes.A) || gives_address (ends.leaf rtypes.Aaaa)) || b) (given_by_walks servers later behind)
      ∙ crossed (gives_address (ends.leaf rtypes.A)) (gives_address (ends.leaf rtypes.Aaaa)) _ _
    where
      crossed : (a b c d : Bool) → ((a || b) || (c || d)) ≡ ((a || c) || (b || d))
      crossed true b c d = refl
      crossed false true true d = refl
      crossed false true false d = refl
      crossed false false c d = refl

  module _ (rewrites : ℕ) (followed : List Labels) (rtype : RrType) where
    abbrev while : Setting
    while = following config rewrites followed

    -- no walk goes on
    settled : (servers : List Labels) (given : Bool) → AreEnds config name servers given → AllByRecursion (Settled 1 while rtype) (map begins_at servers)
    settled [] given are = tt
    settled (server ∷ servers) given (here, later, ends, behind, is) =
        (subst (AllByRecursion (LeadsTo (Settled 0 while rtype))) (sym (ends.ends server refl rewrites followed rtype)) (tt, tt), settled servers later behind)

    -- so these are all
    all_walks : (servers : List Labels) (given : Bool) (are : AreEnds config name servers given)
        → walks_at servers given are rtype ≡ flat_map (walks_within 1 while rtype) (map begins_at servers)
    all_walks [] given are = refl
    all_walks (server ∷ servers) given (here, later, ends, behind, is) =
        ap (λ (walks : List Walk). record { states = begins_at server ∷ []; hops = []; leaf = ends.leaf rtype } ∷ walks) (all_walks servers later behind)
        ∙ ap (λ (branches : List Branch). flat_map (walks_by (walks_within 0 while rtype) (begins_at server)) branches
        ++ flat_map (walks_within 1 while rtype) (map begins_at servers)) (sym (ends.ends server refl rewrites followed rtype))

-- a name rests if the walks that begin at the top servers end there
ends_rest : (config : Config) (name : Labels) (given : Bool) → AreEnds config name config.tops given → Rests config name given
ends_rest config name given are = record {
  walks = λ rewrites followed rtype. (
    walks_at config name config.tops given are rtype,
    walks_are rewrites followed rtype,
    states_are config name config.tops given are rtype,
  );
  learns = λ rewrites followed.
      let four = learns_told (following config rewrites followed) name rtypes.A _ (walks_are rewrites followed rtypes.A) _ refl in
      let six = learns_told (following config rewrites followed) name rtypes.Aaaa _ (walks_are rewrites followed rtypes.Aaaa) _ refl in
      let is = given_by_walks config name config.tops given are in (
        λ yes. elim (or_cases _ _ (sym is ∙ yes)) [ inl gives ↦ inl (four.0 gives) | inr gives ↦ inr (six.0 gives) ],
        λ learns. is ∙ elim learns [
          | inl by_four ↦ ap (λ (b : Bool). b || list_any (λ (walk : Walk). gives_address walk.leaf) (walks_at config name config.tops given are rtypes.Aaaa)) (four.1 by_four)
          | inr by_six ↦ ap (λ (b : Bool). list_any (λ (walk : Walk). gives_address walk.leaf) (walks_at config name config.tops given are rtypes.A) || b) (six.1 by_six) ∙ or-true _
        ],
      );
}
  where
    walks_are : (rewrites : ℕ) (followed : List Labels) (rtype : RrType)
        → AreWalks (following config rewrites followed) name rtype (walks_at config name config.tops given are rtype)
    walks_are rewrites followed rtype =
        are_walks (following config rewrites followed) rtype 1 name (walks_at config name config.tops given are rtype)
        (all_walks config name rewrites followed rtype config.tops given are) (settled config name rewrites followed rtype config.tops given are)

-- ---- the top servers that hold a zone for the name

module _ (config : Config) (name : Labels) where
  abbrev holds : Labels → Bool
  holds server = is_some (nearest_of config server name)

  -- at a server that holds none for the name a walk leads out of what is configured
  ends_at_all : (servers : List Labels) (given : Bool) → AreEnds config name (filter holds servers) given
      → AreEnds config name servers (nat_lt (length (filter holds servers)) (length servers) || given)
  ends_at_all [] given are = are
  ends_at_all (server ∷ servers) given are = by (ends_at_all servers) (nearest_of config server name) refl are where
    few : length (filter holds servers) ≤ length servers
    few = subst (λ (n : ℕ). n ≤ length servers) (sym (length-filter holds servers)) (count_by-le-length holds servers)

    later_first : (a b c : Bool) → (a || (b || c)) ≡ (b || (a || c))
    later_first true true c = refl
    later_first true false c = refl
    later_first false b c = refl

    by : ((given : Bool) → AreEnds config name (filter holds servers) given → AreEnds config name servers (nat_lt (length (filter holds servers)) (length servers) || given))
        → (held : Option Zone) → nearest_of config server name ≡ held → AreEnds config name (cond (is_some held) (server ∷ filter holds servers) (filter holds servers)) given
        → AreEnds config name (server ∷ servers)
        (nat_lt (length (cond (is_some held) (server ∷ filter holds servers) (filter holds servers))) (length (server ∷ servers)) || given)
    by behind None is are =
        let fewer : nat_lt (length (filter holds servers)) (length (server ∷ servers)) ≡ true = lt-ltb _ _ (omega (arith, few)) in
        (true, _, outside_ends_at config name server is, behind given are, ap (λ (b : Bool). b || given) fewer)
    by behind (Some zone) is (here, later, ends, rest, so) =
        let same : nat_lt (length (server ∷ filter holds servers)) (length (server ∷ servers)) ≡ nat_lt (length (filter holds servers)) (length servers) = grind (arith, nat_tests) in (
          here,
          _,
          ends,
          behind later rest,
          ap (λ (b : Bool). b || given) same ∙ ap (λ (b : Bool). nat_lt (length (filter holds servers)) (length servers) || b) so
              ∙ later_first (nat_lt (length (filter holds servers)) (length servers)) here later,
        )

-- ---- top servers that stand for others

module _ (config : Config) (name : Labels) where
  -- where walks end at each of some servers, they end at any of them
  ends_there : (servers : List Labels) (given : Bool) → AreEnds config name servers given → (server : Labels) → Contains servers server
      → (here : Bool) × EndsAt config name server here × (here ≡ true → given ≡ true)
  ends_there [] given are server has = absurd (none_in_nil server has)
  ends_there (first ∷ servers) given (here, later, ends, behind, is) server has =
      elim (first_or_later first servers server has) [
        | inl same ↦ (here, subst (λ (s : Labels). EndsAt config name s here) same ends, λ gives. is ∙ ap (λ (b : Bool). b || later) gives)
        | inr rest ↦ (
            let (there, at, gives_there) = ends_there servers later behind server rest in
            (there, at, λ gives. is ∙ ap (λ (b : Bool). here || b) (gives_there gives) ∙ or-true here)
            )
      ]

  -- where an address is given one of them gives it
  giving_one : (servers : List Labels) (given : Bool) → AreEnds config name servers given → given ≡ true
      → (server : Labels) × Contains servers server × EndsAt config name server true
  giving_one [] given are gives = absurd (true≢false (sym gives ∙ are))
  giving_one (first ∷ servers) given (here, later, ends, behind, is) gives =
      elim (or_cases here later (sym is ∙ gives)) [
        | inl first_gives ↦ (first, has_first first servers, subst (EndsAt config name first) first_gives ends)
        | inr rest ↦ (let (server, has, at) = giving_one servers later behind rest in (server, has_later first servers server has, at))
      ]

  -- walks end alike at another server that looks the name up in the same zone
  ends_alike : (server other : Labels) (here : Bool) → nearest_of config server name ≡ nearest_of config other name → EndsAt config name server here
      → EndsAt config name other here
  ends_alike server other here same ends =
      record { leaf = ends.leaf; ends = λ third alike. ends.ends third (alike ∙ sym same); is_given = ends.is_given }

  -- of a server one thing is told
  told_once : (server : Labels) (one two : Bool) → EndsAt config name server one → EndsAt config name server two → one ≡ two
  told_once server one two a b =
      a.is_given ∙ ap (λ (leaf : Leaf). gives_address leaf || gives_address (a.leaf rtypes.Aaaa)) (same rtypes.A)
      ∙ ap (λ (leaf : Leaf). gives_address (b.leaf rtypes.A) || gives_address leaf) (same rtypes.Aaaa) ∙ sym b.is_given
    where
      same : (rtype : RrType) → a.leaf rtype ≡ b.leaf rtype
      same rtype =
          let one_end : (End None (a.leaf rtype) ∷ []) ≡ (End None (b.leaf rtype) ∷ []) = sym (a.ends server refl 0 [] rtype) ∙ b.ends server refl 0 [] rtype in cc

  -- walks end at servers each of which has one like it among those at which they end
  ends_like : (servers : List Labels) (given : Bool) → AreEnds config name servers given → (tops : List Labels)
      → ((top : Labels) → Contains tops top → HasLike config servers top) → (all : Bool) × AreEnds config name tops all × (all ≡ true → given ≡ true)
  ends_like servers given are [] each = (false, refl, λ gives. absurd (true≢false (sym gives)))
  ends_like servers given are (top ∷ tops) each =
      let (other, has, same) = each top (has_first top tops) in
      let (here, ends, gives_here) = ends_there servers given are other has in
      let (later, behind, gives_later) = ends_like servers given are tops (λ t among. each t (has_later top tops t among)) in (
        here || later,
        (here, later, ends_alike other top here (same name) ends, behind, refl),
        λ gives. elim (or_cases here later gives) [ inl first_gives ↦ gives_here first_gives | inr rest ↦ gives_later rest ],
      )

  -- it's told the same of them where those are among them
  ends_at_each : (servers : List Labels) (given : Bool) → AreEnds config name servers given → (tops : List Labels)
      → ((server : Labels) → Contains servers server → Contains tops server) → ((top : Labels) → Contains tops top → HasLike config servers top)
      → AreEnds config name tops given
  ends_at_each servers given are tops some each =
      let (all, ends, gives) = ends_like servers given are tops each in
      subst (AreEnds config name tops) (alike all given gives (λ yes.
      let (server, has, at) = giving_one servers given are yes in
      let (here, ends_here, gives_here) = ends_there tops all ends server (some server has) in
      gives_here (told_once server here true ends_here at))) ends
    where
      alike : (a b : Bool) → (a ≡ true → b ≡ true) → (b ≡ true → a ≡ true) → a ≡ b
      alike true b to back = sym (to refl)
      alike false true to back = back refl
      alike false false to back = refl

-- a name rests if the walks end that begin at those that hold a zone for it, among top servers that stand for all
pub tops_rest : (config listed : Config) (name : Labels) (holding : List Labels) (given : Bool) → StandsForTops config listed → holding ≡ tops_holding listed name
    → AreEnds config name holding given → Rests config name (nat_lt (length holding) (length listed.tops) || given)
tops_rest config listed name holding given stands is are =
    subst (λ (servers : List Labels). Rests config name (nat_lt (length servers) (length listed.tops) || given)) (sym are_these)
    (subst (λ (k : Config). Rests config name (nat_lt (length (filter (holds config name) stands.tops)) (length k.tops) || given)) (sym stands.is)
    (ends_rest config name _
    (ends_at_each config name stands.tops _
    (ends_at_all config name stands.tops given (subst (λ (servers : List Labels). AreEnds config name servers given) are_these are))
    config.tops stands.some stands.each)))
  where
    are_these : holding ≡ filter (holds config name) stands.tops
    are_these = is ∙ ap (λ (k : Config). tops_holding k name) stands.is

-- ---- how much a name reaches that rests

module _ (config : Config) (rewrites : ℕ) (name : Labels) (learnt : Bool) (rests : Rests config name learnt) where
  -- it has no more walks with a type than there are top servers
  pub few_walks : (followed : List Labels) (rtype : RrType) (most : ℕ) → length config.tops ≤ most
      → HasMoreThan (λ numbers. IsSome (walk_along (following config rewrites followed) name rtype numbers)) most → ⊥
  few_walks followed rtype most fits =
      let (all, are, states) = rests.walks rewrites followed rtype in
      let many : length all ≡ length config.tops =
      sym (length-map all (λ (walk : Walk). walk.states)) ∙ ap (λ (lists : List (List State)). length lists) states
      ∙ length-map (start config name) (λ (state : State). state ∷ []) ∙ length-map config.tops (arrived config name true 0 None) in
      no_more_listed (following config rewrites followed) name rtype all are most (omega (arith, many, fits))

  -- a state with each type
  abbrev typed : State → List (State × RrType)
  typed state = map (λ (rtype : RrType). (state, rtype)) types

  twelve_each : (states : List State) → length (flat_map typed states) ≡ length states * 12
  twelve_each [] = refl
  twelve_each (state ∷ states) =
      let rest : length (flat_map typed states) ≡ length states * 12 = twelve_each states in
      omega (arith, length-append (typed state) (flat_map typed states), rest)

  -- it reaches no more pairs of state and type than the twelve types at each top server
  pub few_pairs : (limit : ℕ) → length config.tops * 12 ≤ limit → HasMoreThan (IsReached config rewrites name) limit → ⊥
  few_pairs limit fits =
      no_more_than (IsReached config rewrites name) limit (flat_map typed (start config name))
      (omega (arith, twelve_each (start config name), length-map config.tops (arrived config name true 0 None), fits)) reached
    where
      reached : (pair : State × RrType) → IsReached config rewrites name pair → Contains (flat_map typed (start config name)) pair
      reached pair is =
          let (all, are, states) = rests.walks rewrites (server_names config) pair.1 in
          let listed = is_listed (following config rewrites (server_names config)) name pair.1 all are is.walk is.is_walk in
          let alone = subst (λ (lists : List (List State)). Contains lists is.walk.states) states (map_has (λ (walk : Walk). walk.states) all is.walk listed) in
          let (state, begins, only) = from_map (λ (s : State). s ∷ []) (start config name) is.walk.states alone in
          let stands : Contains (state ∷ []) pair.0 = subst (λ (states : List State). Contains states pair.0) (sym only) is.stands in
          let same : state ≡ pair.0 = elim (first_or_later state [] pair.0 stands) [ inl e ↦ e | inr none ↦ absurd (none_in_nil pair.0 none) ] in
          let (rtype, among, equal) = from_any (λ (other : RrType). type_eq other pair.1) types (among_types pair.1) in
          flat_map_has typed (start config name) pair.0 pair (subst (Contains (start config name)) same begins)
          (map_has (λ (t : RrType). (pair.0, t)) types pair.1 (subst (Contains types) (one_type rtype pair.1 equal) among))
