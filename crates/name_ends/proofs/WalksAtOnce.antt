-- Walks that end at the top servers, where they begin, or at name servers that aren't configured: what is told of them, and
-- that there are no others.
use Rattle.std.proofs.Common.{◌≡◌, ℕ, suc, ◌≤◌, ◌*◌, ◌+◌, false, true, List, [], ◌∷◌, ◌++◌, length, map, Bor, Option, Some, None, refl, sym, ap, ◌∙◌, subst, arith, append-nil, length-append}
use Rattle.std.specs.Prelude.{Bool, ◌==◌, ◌||◌, not, IfSome}
use Rattle.std.specs.List.{AllByRecursion, flat_map, list_any}
use Rattle.std.proofs.lemmas.Bool.{or_parts}
use Rattle.std.proofs.lemmas.Bool.Decides.{nat_tests}
use Rattle.std.proofs.lemmas.Grind.{flat_map-append}
use Rattle.std.proofs.lemmas.List.{length-map, map-append}
use Rattle.std.proofs.lemmas.List.Folds.{list_any-append}
use Rattle.dns_data.specs.Name.{Labels}
use Rattle.dns_data.specs.declared.rdata.Rdata.{Rdata}
use Rattle.dns_data.specs.declared.rr_type.RrType.{RrType}
use Rattle.dns_data.specs.declared.rr_type.RrType.TheVariants as types
use Rattle.net_model.specs.declared.config.Config.{Config}
use Rattle.net_model.specs.declared.config.Zone.{Zone}
use Rattle.net_model.specs.declared.walk.Hop.TheVariants.{Refer}
use Rattle.net_model.specs.declared.walk.Leaf.{Leaf}
use Rattle.net_model.specs.declared.walk.Leaf.TheVariants as leaves
use Rattle.net_model.specs.declared.walk.State.{State}
use Rattle.net_model.specs.declared.walk.Walk.{Walk}
use Rattle.net_model.specs.Lookup.{answer_of}
use Rattle.net_model.specs.Nearest.{is_configured}
use Rattle.net_model.specs.Order.{in_order}
use Rattle.net_model.specs.Step.{Branch, End, Setting, after_lookup, arrived, following, next, referred, start}
use Rattle.net_model.specs.Zone.{data_at, data_cmp, ns_names}
use Rattle.net_model.proofs.AllWalks.{LeadsTo, Settled, walks_by, walks_within}
use Rattle.net_model.proofs.WalkLists.{are_walks, total}
use Rattle.zone_lookup.specs.CutTable.{cut_to}
use Rattle.zone_lookup.specs.Reply.{IsReply}
use Rattle.zone_lookup.specs.Resting.{data_leaf}
use Rattle.zone_lookup.specs.Tree.{ZoneTree, name_of}
use Rattle.zone_lookup.specs.declared.leads.Lead.TheVariants as lead
use Rattle.zone_lookup.specs.declared.reply.Reply.TheVariants as reply
use Rattle.zone_lookup.proofs.Leading.{refers_by}
use Rattle.zone_lookup.proofs.Replying.{nothing_ends, outside_ends, records_answer, refers_on}
use Rattle.plain_resolver.specs.WalkEnds.{is_rewrite}
use Rattle.plain_resolver.proofs.Resolved.{has_no_more}
use Rattle.name_ends.specs.Asked.{ends_in, type_ends}
use Rattle.name_ends.specs.AtOnce.{AreSeen, EndAtOnce, RefersOutside, data_ends, either_ends, either_seen, most_at_once, no_ends, plain_ends, seen_alike}
use Rattle.name_ends.specs.Ends.{ends_among, is_kind, most_walks}
use Rattle.name_ends.specs.declared.at_once.SeenEnds.{SeenEnds}
use Rattle.name_ends.specs.declared.ends.TypeEnds.{TypeEnds}
use Rattle.name_ends.specs.declared.kinds.EndKind.TheVariants as kinds
use Rattle.name_ends.proofs.NameWalks.{ends_few}

-- a list with an item isn't empty
some_are : (n : ℕ) → true ≡ not (suc n == 0)
some_are n = sym (ap not (let e : (suc n == 0) ≡ false = grind (arith, nat_tests) in e))

-- ---- walks and others

-- what is told of walks and of others, is told of both
ends_of_both : (walks others : List Walk) → ends_among (walks ++ others) ≡ either_ends (ends_among walks) (ends_among others)
ends_of_both walks others = λ i. record {
  answer = list_any-append (λ (walk : Walk). is_kind kinds.Answer walk.leaf) walks others i;
  no_data = list_any-append (λ (walk : Walk). is_kind kinds.NoData walk.leaf) walks others i;
  no_name = list_any-append (λ (walk : Walk). is_kind kinds.NxDomain walk.leaf) walks others i;
  outside = list_any-append (λ (walk : Walk). is_kind kinds.Outside walk.leaf) walks others i;
  unhosted = list_any-append (λ (walk : Walk). is_kind kinds.Unhosted walk.leaf) walks others i;
  lame = list_any-append (λ (walk : Walk). is_kind kinds.Lame walk.leaf) walks others i;
  no_address = list_any-append (λ (walk : Walk). is_kind kinds.NoAddress walk.leaf) walks others i;
  limit = list_any-append (λ (walk : Walk). is_kind kinds.Limit walk.leaf) walks others i;
  overlong = list_any-append (λ (walk : Walk). is_kind kinds.Overlong walk.leaf) walks others i;
  rewritten = list_any-append (λ (walk : Walk). list_any is_rewrite walk.hops) walks others i;
}

module _ (setting : Setting) (rtype : RrType) where
  -- what holds of each of some states and of each of others, holds of all
  all_both : (states others : List State) → AllByRecursion (Settled 1 setting rtype) states → AllByRecursion (Settled 1 setting rtype) others
      → AllByRecursion (Settled 1 setting rtype) (states ++ others)
  all_both [] others p q = q
  all_both (state ∷ states) others p q = (p.0, all_both states others p.1 q)

  -- walks that begin in some states or in others end at once
  end_both : (states others : List State) (a b : TypeEnds) → EndAtOnce setting rtype states a → EndAtOnce setting rtype others b
      → EndAtOnce setting rtype (states ++ others) (either_ends a b)
  end_both states others a b p q =
      let walks : State → List Walk = walks_within 1 setting rtype in
      let many : length (flat_map walks (states ++ others)) ≡ length (flat_map walks states) + length (flat_map walks others) =
      ap (λ (all : List Walk). length all) (flat_map-append walks states others) ∙ length-append (flat_map walks states) (flat_map walks others) in
      record {
        settled = all_both states others p.settled q.settled;
        few = omega (arith, p.few, q.few, many, length-append states others);
        told = ap ends_among (flat_map-append walks states others)
            ∙ ends_of_both (flat_map walks states) (flat_map walks others)
            ∙ (λ i. either_ends (p.told i) (q.told i));
      }

  -- ---- walks that begin in one state

  module _ (state : State) where
    -- the walks of branches that end
    abbrev walks_at : List Branch → List Walk
    walks_at branches = flat_map (walks_by (walks_within 0 setting rtype) state) branches

    by_branches : (branches : List Branch) (ends : TypeEnds) → next setting rtype state ≡ branches → AllByRecursion (LeadsTo (Settled 0 setting rtype)) branches
        → length (walks_at branches) ≤ most_at_once → ends_among (walks_at branches) ≡ ends → EndAtOnce setting rtype (state ∷ []) ends
    by_branches branches ends is settled few told =
        let all : flat_map (walks_within 1 setting rtype) (state ∷ []) ≡ walks_at branches = append-nil (walks_within 1 setting rtype state) ∙ ap walks_at is in
        record {
          settled = (subst (AllByRecursion (LeadsTo (Settled 0 setting rtype))) (sym is) settled, tt);
          few = subst (λ (walks : List Walk). length walks ≤ most_at_once * 1) (sym all) few;
          told = ap ends_among all ∙ told;
        }

    by_leaf : (leaf : Leaf) (ends : TypeEnds) → next setting rtype state ≡ End None leaf ∷ []
        → ends_among (record { states = state ∷ []; hops = []; leaf = leaf } ∷ []) ≡ ends → EndAtOnce setting rtype (state ∷ []) ends
    by_leaf leaf ends is told = by_branches (End None leaf ∷ []) ends is (tt, tt) (omega arith) told

    -- data end a walk, and so do none
    data_end : (all : List Rdata) (origin : Labels) → after_lookup setting state origin (answer_of all) ≡ End None (data_leaf all) ∷ []
    data_end [] origin = refl
    data_end (first ∷ rest) origin = refl

    ends_of_data : (all : List Rdata) → ends_among (record { states = state ∷ []; hops = []; leaf = data_leaf all } ∷ []) ≡ data_ends all
    ends_of_data [] = refl
    ends_of_data (first ∷ rest) = refl

    module _ (zone : Zone) (cut : Labels) where
      -- the branch to a name server that isn't configured
      abbrev outside : Labels → Branch
      outside ns = End (Some (Refer (cut_to state.server zone cut ns))) (leaves.Unhosted ns)

      all_outside : (names : List Labels) → list_any (is_configured setting.config) names ≡ false
          → map (λ ns. referred setting state (cut_to state.server zone cut ns)) names ≡ map outside names
      all_outside [] none = refl
      all_outside (ns ∷ names) none =
          let both = or_parts (is_configured setting.config ns) (list_any (is_configured setting.config) names) none in
          λ i. refers_by setting state (cut_to state.server zone cut ns) lead.Unhosted both.0 i ∷ all_outside names both.1 i

      outside_settled : (names : List Labels) → AllByRecursion (LeadsTo (Settled 0 setting rtype)) (map outside names)
      outside_settled [] = tt
      outside_settled (ns ∷ names) = (tt, outside_settled names)

      as_many : (names : List Labels) → length (walks_at (map outside names)) ≡ length names
      as_many [] = refl
      as_many (ns ∷ names) = ap suc (as_many names)

      ends_of_outside : (names : List Labels) → ends_among (walks_at (map outside names)) ≡ plain_ends false false false false (not (length names == 0))
      ends_of_outside [] = refl
      ends_of_outside (ns ∷ names) =
          let rest = ends_of_outside names in λ i. record {
            answer = (rest i).answer;
            no_data = (rest i).no_data;
            no_name = (rest i).no_name;
            outside = (rest i).outside;
            unhosted = some_are (length names) i;
            lame = (rest i).lame;
            no_address = (rest i).no_address;
            limit = (rest i).limit;
            overlong = (rest i).overlong;
            rewritten = (rest i).rewritten;
          }

-- name servers of which none is configured, and of which there aren't too many
pub refers_outside : (config : Config) (names : List (Bor Labels)) (seen : SeenEnds) → list_any (λ name. is_configured config name.now) names ≡ false
    → length names ≤ most_at_once → seen ≡ seen_alike (plain_ends false false false false (not (length names == 0)))
    → RefersOutside config (map (λ name. name.now) names) seen
refers_outside config names seen none few told =
    let many : length (map (λ (name : Bor Labels). name.now) names) ≡ length names = length-map names (λ (name : Bor Labels). name.now) in
    record {
      none = sym (any_lent names) ∙ none;
      few = omega (arith, many, few);
      told = told ∙ ap (λ (n : ℕ). seen_alike (plain_ends false false false false (not (n == 0)))) (sym many);
    }
  where
    any_lent : (names : List (Bor Labels)) → list_any (λ name. is_configured config name.now) names ≡ list_any (is_configured config) (map (λ name. name.now) names)
    any_lent [] = refl
    any_lent (name ∷ names) = ap (λ (b : Bool). is_configured config name.now || b) (any_lent names)

-- ---- what a server replies

module _ (config : Config) (name : Labels) where
  -- the state in which walks begin at a server
  abbrev begins_at : Labels → State
  begins_at server = arrived config name true 0 None server

  -- of no server nothing is told
  pub none_seen : (seen : SeenEnds) → seen ≡ seen_alike no_ends → AreSeen config name [] seen
  none_seen seen is = λ rewrites followed.
      subst (λ (ends : SeenEnds). EndAtOnce (following config rewrites followed) types.A [] ends.four × EndAtOnce (following config rewrites followed) types.Aaaa [] ends.six)
      (sym is) (record { settled = tt; few = omega arith; told = refl }, record { settled = tt; few = omega arith; told = refl })

  -- one server more
  pub seen_more : (servers : List Labels) (server : Labels) (seen here : SeenEnds) → AreSeen config name servers seen → AreSeen config name (server ∷ []) here
      → AreSeen config name (servers ++ server ∷ []) (either_seen seen here)
  seen_more servers server seen here before ends = λ rewrites followed.
      let setting = following config rewrites followed in
      let all : map begins_at (servers ++ server ∷ []) ≡ map begins_at servers ++ begins_at server ∷ [] = map-append begins_at servers (server ∷ []) in (
        subst (λ (states : List State). EndAtOnce setting types.A states (either_ends seen.four here.four)) (sym all)
            (end_both setting types.A (map begins_at servers) (begins_at server ∷ []) seen.four here.four (before rewrites followed).0 (ends rewrites followed).0),
        subst (λ (states : List State). EndAtOnce setting types.Aaaa states (either_ends seen.six here.six)) (sym all)
            (end_both setting types.Aaaa (map begins_at servers) (begins_at server ∷ []) seen.six here.six (before rewrites followed).1 (ends rewrites followed).1),
      )

  module _ (server : Labels) where
    pub outside_seen : IsReply config server name reply.Outside → (seen : SeenEnds) → seen ≡ seen_alike (plain_ends false false false true false)
        → AreSeen config name (server ∷ []) seen
    outside_seen so seen is =
        subst (AreSeen config name (server ∷ [])) (sym is)
        (λ rewrites followed.
        let setting = following config rewrites followed in
        let state = begins_at server in (
          by_leaf setting types.A state leaves.Outside _ (outside_ends setting state types.A so) refl,
          by_leaf setting types.Aaaa state leaves.Outside _ (outside_ends setting state types.Aaaa so) refl,
        ))

    pub nothing_seen : (tree : Bor ZoneTree) → IsReply config server name (reply.Nothing tree) → (seen : SeenEnds)
        → seen ≡ seen_alike (plain_ends false false true false false) → AreSeen config name (server ∷ []) seen
    nothing_seen tree so seen is =
        subst (AreSeen config name (server ∷ [])) (sym is)
        (λ rewrites followed.
        let setting = following config rewrites followed in
        let state = begins_at server in (
          by_leaf setting types.A state leaves.NxDomain _ (nothing_ends setting state types.A tree so) refl,
          by_leaf setting types.Aaaa state leaves.NxDomain _ (nothing_ends setting state types.Aaaa tree so) refl,
        ))

    -- the data of a type of a node
    abbrev data_of : ZoneTree → ℕ → RrType → List Rdata
    data_of tree owner rtype = in_order data_cmp (data_at tree.zone (name_of tree owner) rtype)

    pub records_seen : (tree : Bor ZoneTree) (owner : ℕ) → IsReply config server name (reply.Records tree owner) → (seen : SeenEnds)
        → seen ≡ record { four = data_ends (data_of tree.now owner types.A); six = data_ends (data_of tree.now owner types.Aaaa) }
        → AreSeen config name (server ∷ []) seen
    records_seen tree owner so seen is =
        subst (AreSeen config name (server ∷ [])) (sym is)
        (λ rewrites followed.
        let setting = following config rewrites followed in
        let state = begins_at server in
        let one = λ (rtype : RrType).
        let all : List Rdata = data_of tree.now owner rtype in
        by_leaf setting rtype state (data_leaf all) (data_ends all)
        (records_answer setting state rtype tree owner so ∙ data_end setting rtype state all tree.now.zone.origin) (ends_of_data setting rtype state all) in
        (one types.A, one types.Aaaa))

    pub refers_seen : (tree : Bor ZoneTree) (cut : ℕ) → IsReply config server name (reply.Refers tree cut) → (seen : SeenEnds)
        → RefersOutside config (ns_names tree.now.zone (name_of tree.now cut)) seen → AreSeen config name (server ∷ []) seen
    refers_seen tree cut so seen out =
        subst (AreSeen config name (server ∷ [])) (sym out.told)
        (λ rewrites followed.
        let setting = following config rewrites followed in
        let state = begins_at server in
        let zone : Zone = tree.now.zone in
        let at : Labels = name_of tree.now cut in
        let names : List Labels = ns_names zone at in
        let one = λ (rtype : RrType).
        by_branches setting rtype state (map (outside setting rtype state zone at) names) (plain_ends false false false false (not (length names == 0)))
        (refers_on setting state rtype tree cut so ∙ all_outside setting rtype state zone at names out.none)
        (outside_settled setting rtype state zone at names)
        (omega (arith, as_many setting rtype state zone at names, out.few))
        (ends_of_outside setting rtype state zone at names) in
        (one types.A, one types.Aaaa))

    -- if it is told of such name servers
    pub refers_if : (tree : Bor ZoneTree) (cut : ℕ) → IsReply config server name (reply.Refers tree cut) → (names : List Labels)
        → names ≡ ns_names tree.now.zone (name_of tree.now cut) → (seen : Option SeenEnds)
        → IfSome seen (RefersOutside config names) → IfSome seen (AreSeen config name (server ∷ []))
    refers_if tree cut so names is None out = tt
    refers_if tree cut so names is (Some seen) out = refers_seen tree cut so seen (subst (λ (all : List Labels). RefersOutside config all seen) is out)

  -- what is told of the walks of a type that end at once is how all walks of the name end
  type_at_once : (setting : Setting) (rtype : RrType) (ends : TypeEnds) → length setting.config.tops ≤ 8 → EndAtOnce setting rtype (start setting.config name) ends
      → Some ends ≡ type_ends setting name rtype
  type_at_once setting rtype ends few end =
      let begins : Labels → State = arrived setting.config name true 0 None in
      ap (λ (told : TypeEnds). Some told) (sym end.told)
      ∙ ends_few setting name rtype (total setting rtype 1 name) (are_walks setting rtype 1 name (total setting rtype 1 name) refl end.settled)
      (has_no_more setting rtype 1 name most_walks (omega (arith, few, end.few, length-map setting.config.tops begins)) end.settled)

  -- so it is of those of both types
  pub all_at_once : (seen : SeenEnds) → length config.tops ≤ 8 → AreSeen config name config.tops seen → (rewrites : ℕ) (followed : List Labels)
      → record { four = Some seen.four; six = Some seen.six } ≡ ends_in (following config rewrites followed) name
  all_at_once seen few are rewrites followed =
      let setting = following config rewrites followed in
      let both = are rewrites followed in
      λ i. record { four = type_at_once setting types.A seen.four few both.0 i; six = type_at_once setting types.Aaaa seen.six few both.1 i }
