-- Where a query's last label makes no difference in the graph of its walks, the query and each name with other labels in
-- its place, not too many, walk alike.
use Rattle.std.proofs.Common.{◌≡◌, ◌≢◌, ◌∙◌, ℕ, ◌+◌, ◌≤◌, Bool, true, false, List, [], ◌∷◌, ◌++◌, map, length, Option, Some, None, is_some, refl, sym, ap, subst, inl, inr, arith, true≢false}
use Rattle.std.specs.Prelude.{Contains, if◌then◌else◌, slice_get, option_map}
use Rattle.std.specs.List.{AllZip, list_any}
use Rattle.std.specs.Option.{option_map_or}
use Rattle.dns_data.specs.Name.{Labels}
use Rattle.dns_data.specs.TypeSet.{has_bit}
use Rattle.dns_data.specs.declared.rr_type.RrType.{RrType}
use Rattle.dns_data.proofs.Membership.{first_or_later, from_map, item_there, map_has, none_in_nil}
use Rattle.dns_data.proofs.NameFronts.{is_prefix_told, octets_below, tail_octets}
use Rattle.dns_data.proofs.Searches.{any_has, found_there}
use Rattle.net_model.specs.declared.config.Config.{Config}
use Rattle.net_model.specs.declared.config.Zone.{Zone}
use Rattle.net_model.specs.declared.walk.Hop.{Hop}
use Rattle.net_model.specs.declared.walk.Hop.TheVariants.{Refer, Rewrite}
use Rattle.net_model.specs.declared.walk.Leaf.{Leaf}
use Rattle.net_model.specs.declared.walk.Leaf.TheVariants.{Lame, NoAddress}
use Rattle.net_model.specs.declared.walk.State.{State}
use Rattle.net_model.specs.declared.walk.Walk.{Walk}
use Rattle.net_model.specs.Nearest.{nearest_of, server_names}
use Rattle.net_model.specs.OpenTail.{IsOpenTail}
use Rattle.net_model.specs.Retail.{retail, retailed_state}
use Rattle.net_model.specs.Step.{Setting, arrived, following, may_follow, next, start}
use Rattle.net_model.specs.Step as step
use Rattle.net_model.specs.Tails.{WalksAs, is_overlong}
use Rattle.net_model.specs.Tree.{IsReached}
use Rattle.net_model.specs.Walk.{IsBoundedWith, IsWalk, walk_along}
use Rattle.net_model.proofs.Counting.{more_images}
use Rattle.net_model.proofs.NearestZones.{nearest_tells}
use Rattle.net_model.proofs.WalkEnds.{LeadsSo, walk_ends}
use Rattle.graph_form.specs.EndFaults.{is_overlong_end}
use Rattle.graph_form.specs.Graph.{PlainGraph, arm_of}
use Rattle.graph_form.specs.GraphOf.{HasState, HasType, IsArm, TellsStep}
use Rattle.graph_form.specs.declared.node.Arm.{Arm}
use Rattle.graph_form.specs.declared.node.Branch.{Branch}
use Rattle.graph_form.specs.declared.node.Branch.TheVariants.{Go, End}
use Rattle.graph_form.specs.declared.node.Node.{Node}
use Rattle.interp_graph.specs.Asked.{IsBuilt}
use Rattle.interp_graph.specs.Restricted.{restricted, shut}
use Rattle.interp_graph.proofs.ItemsByNumber.{beside_other, one_there}
use Rattle.interp_graph.proofs.NextRestricted.{next_restricted}
use Rattle.straight_walks.specs.Straight.{NoOriginBelow}
use Rattle.straight_walks.proofs.BelowOrigins.{same_nearest}
use Rattle.walk_laws.proofs.WalksAlike.OpenBack.{open_back}
use Rattle.walk_laws.proofs.WalksAlike.OpenWalks.{AllOpen, OpensAt, open_walks}
use Rattle.query_verdicts.specs.AlikeBelow.{HasNoneBelow, IsOpenGraph, IsOpenState}
use Rattle.query_verdicts.specs.Verdict.{PassesStates}
use Rattle.query_verdicts.proofs.QuietBelow.{holds_of_all, holds_with_tail}

-- ---- lists

-- what holds of some item isn't false of all
none_so : {X : Type 0} (test : X → Bool) (xs : List X) (x : X) → list_any test xs ≡ false → Contains xs x → test x ≡ false
none_so test xs x none has = by (test x) refl where
  by : (b : Bool) → test x ≡ b → b ≡ false
  by true is = absurd (true≢false (sym (any_has test xs x has is) ∙ none))
  by false is = refl

-- beside nothing stands nothing
none_beside : {A B : Type 0} (R : A → B → Type 0) (xs : List A) (ys : List B) → AllZip R xs ys → ys ≡ [] → xs ≡ []
none_beside R [] ys all none = refl
none_beside R (x ∷ xs) [] all none = absurd all
none_beside R (x ∷ xs) (y ∷ ys) all none = cc

-- where a list is the images of its items' images, each of its items is the image of its own
each_fixed : {X Y : Type 0} (f : Y → X) (g : X → Y) (xs : List X) → xs ≡ map f (map g xs) → (x : X) → Contains xs x → x ≡ f (g x)
each_fixed f g [] same x has = absurd (none_in_nil x has)
each_fixed {X = X} f g (y ∷ xs) same x has =
    elim (first_or_later y xs x has) [
      | inl is ↦ (let here : y ≡ f (g y) = cc in subst (λ (z : X). z ≡ f (g z)) is here)
      | inr later ↦ (let rest : xs ≡ map f (map g xs) = cc in each_fixed f g xs rest x later)
    ]

-- ---- names below one below which no server has a zone

module _ (config : Config) (above : Labels) (none : NoOriginBelow config above) where
  -- each server looks them up in the zone of that one
  near_above : (tail server : Labels) → nearest_of config server (above ++ tail) ≡ nearest_of config server above
  near_above tail =
      holds_with_tail (λ (name : Labels). (server : Labels) → nearest_of config server name ≡ nearest_of config server above) above
      (holds_of_all config (λ (name : Labels). (server : Labels) → nearest_of config server name ≡ nearest_of config server above) above none
      (λ name between server. same_nearest config above name between server)) tail

  -- and where that zone has no name there either, each tail is open
  tail_opens : (server : Labels) (first : List ℕ) (rest : Labels) → ((zone : Zone) → nearest_of config server above ≡ Some zone → HasNoneBelow zone above)
      → (zone : Zone) → nearest_of config server above ≡ Some zone → IsOpenTail zone above (first ∷ rest)
  tail_opens server first rest no_name zone nearest = record {
    first = first;
    rest = rest;
    is = refl;
    inside = is_prefix_told zone.origin above (nearest_tells config server above zone nearest).1;
    free = no_name zone nearest first;
  }

-- ---- fewer servers followed

module _ (config : Config) (rewrites : ℕ) (followed : List Labels) (rtype : RrType) (state : State) where
  abbrev every : Setting
  every = following config rewrites (server_names config)

  abbrev change : step.Branch → step.Branch
  change = restricted (shut config followed)

  -- an end where a name server may not be followed isn't one in a name that is too long
  shut_ends : (hop : Hop) (leaf : Leaf) → shut config followed hop ≡ Some leaf → is_overlong leaf ≡ false
  shut_ends (Refer cut) leaf is = by (may_follow config cut followed) is where
    by : (may : Bool) → (if may then None else Some (NoAddress cut.ns)) ≡ Some leaf → is_overlong leaf ≡ false
    by true is = cc
    by false is = let same : NoAddress cut.ns ≡ leaf = cc in subst (λ (l : Leaf). is_overlong l ≡ false) same refl
  shut_ends (Rewrite place by_dname to) leaf is = cc

  -- a branch that goes on did so before
  went_on : (branch : step.Branch) (hop : Hop) (to : State) → change branch ≡ step.Go hop to → branch ≡ step.Go hop to
  went_on (step.Go other there) hop to e = by (shut config followed other) e where
    by : (shuts : Option Leaf) → option_map_or (λ leaf. step.End (Some other) leaf) shuts (step.Go other there) ≡ step.Go hop to
        → step.Go other there ≡ step.Go hop to
    by None e = e
    by (Some leaf) e = cc
  went_on (step.End (Some other) (Lame ns)) hop to e = by (shut config followed other) e where
    by : (shuts : Option Leaf) → option_map_or (λ leaf. step.End (Some other) leaf) shuts (step.End (Some other) (Lame ns)) ≡ step.Go hop to
        → step.End (Some other) (Lame ns) ≡ step.Go hop to
    by None e = e
    by (Some leaf) e = cc
  went_on _ hop to e = e

  -- a branch that ends in a name that is too long did so before
  not_ended : (branch : step.Branch) (hop : Option Hop) (leaf : Leaf) → change branch ≡ step.End hop leaf
      → (branch ≡ step.End hop leaf → is_overlong leaf ≡ false) → is_overlong leaf ≡ false
  not_ended (step.Go other there) hop leaf e before = by (shut config followed other) refl e where
    by : (shuts : Option Leaf) → shut config followed other ≡ shuts
        → option_map_or (λ l. step.End (Some other) l) shuts (step.Go other there) ≡ step.End hop leaf → is_overlong leaf ≡ false
    by None is e = before e
    by (Some end) is e = let same : end ≡ leaf = cc in subst (λ (l : Leaf). is_overlong l ≡ false) same (shut_ends other end is)
  not_ended (step.End (Some other) (Lame ns)) hop leaf e before = by (shut config followed other) refl e where
    by : (shuts : Option Leaf) → shut config followed other ≡ shuts
        → option_map_or (λ l. step.End (Some other) l) shuts (step.End (Some other) (Lame ns)) ≡ step.End hop leaf → is_overlong leaf ≡ false
    by None is e = before e
    by (Some end) is e = let same : end ≡ leaf = cc in subst (λ (l : Leaf). is_overlong l ≡ false) same (shut_ends other end is)
  not_ended _ hop leaf e before = before e

  before_all : (branch : step.Branch) → Contains (next (following config rewrites followed) rtype state) branch
      → (before : step.Branch) × Contains (next every rtype state) before × (change before ≡ branch)
  before_all branch has =
      from_map change (next every rtype state) branch
      (subst (λ (steps : List step.Branch). Contains steps branch) (next_restricted config rewrites followed state rtype) has)

  -- while only some servers are followed a state leads on to no others
  goes_before : (hop : Hop) (to : State) → Contains (next (following config rewrites followed) rtype state) (step.Go hop to)
      → Contains (next every rtype state) (step.Go hop to)
  goes_before hop to has =
      let (before, there, is) = before_all (step.Go hop to) has in
      subst (Contains (next every rtype state)) (went_on before hop to is) there

  -- and to no end in a name that is too long, where it leads to none while all are
  ends_before : ((hop : Option Hop) (leaf : Leaf) → Contains (next every rtype state) (step.End hop leaf) → is_overlong leaf ≡ false)
      → (hop : Option Hop) (leaf : Leaf) → Contains (next (following config rewrites followed) rtype state) (step.End hop leaf) → is_overlong leaf ≡ false
  ends_before none hop leaf has =
      let (before, there, is) = before_all (step.End hop leaf) has in
      not_ended before hop leaf is (λ same. none hop leaf (subst (Contains (next every rtype state)) same there))

-- ---- the graph of a query

module _ (config : Config) (rewrites : ℕ) (above : Labels) (label : List ℕ) (graph : PlainGraph) (most : ℕ)
    (built : IsBuilt config rewrites (above ++ label ∷ []) graph) (is_open : IsOpenGraph config label graph most) where
  abbrev all : Setting
  all = following config rewrites (server_names config)

  -- a node of the graph has the state, and an arm for the type
  pub record HasPair (rtype : RrType) (state : State) : Type 0 where
    pub at : ℕ
    pub node : Node
    pub is_node : slice_get graph.nodes at ≡ Some node
    pub state_is : node.state ≡ state
    pub typed : is_some (arm_of node rtype) ≡ true

  of_node : (rtype : RrType) (at : ℕ) (state : State) → HasState graph at state → HasType graph rtype at → HasPair rtype state
  of_node rtype at state (node, is_node, state_is) (other, also, typed) = record {
    at = at;
    node = node;
    is_node = is_node;
    state_is = state_is;
    typed = subst (λ (n : Node). is_some (arm_of n rtype) ≡ true) (one_there graph.nodes at other node also is_node) typed;
  }

  -- a branch of the node's arm for the type tells a step
  pub record TellsOf (rtype : RrType) (taken : step.Branch) : Type 0 where
    pub at : ℕ
    pub node : Node
    pub arm : Arm
    pub is_arm : IsArm graph at node arm
    pub bit : has_bit arm.types rtype ≡ true
    pub branch : Branch
    pub has : Contains arm.branches branch
    pub tells : TellsStep graph branch taken

  told : (rtype : RrType) (state : State) → HasPair rtype state → (taken : step.Branch) → Contains (next all rtype state) taken → TellsOf rtype taken
  told rtype state pair taken has = by (arm_of pair.node rtype) refl pair.typed where
    by : (found : Option Arm) → arm_of pair.node rtype ≡ found → is_some found ≡ true → TellsOf rtype taken
    by None is some = cc
    by (Some arm) is some =
        let there = found_there (λ (a : Arm). has_bit a.types rtype) pair.node.arms arm is in
        let is_arm : IsArm graph pair.at pair.node arm = record { is_node = pair.is_node; has_arm = there.0 } in
        let tells =
        beside_other (TellsStep graph) arm.branches (next all rtype state) taken
        (subst (λ (s : State). AllZip (TellsStep graph) arm.branches (next all rtype s)) pair.state_is
        (built.is_graph.steps pair.at pair.node arm rtype is_arm there.1)) has in
        record { at = pair.at; node = pair.node; arm = arm; is_arm = is_arm; bit = there.1; branch = tells.0; has = tells.1; tells = tells.2 }

  -- from the state of a node walks go on to states of nodes
  goes_on : (rtype : RrType) (state : State) → HasPair rtype state → (hop : Hop) (to : State) → Contains (next all rtype state) (step.Go hop to)
      → HasPair rtype to
  goes_on rtype state pair hop to has = by (told rtype state pair (step.Go hop to) has) where
    by_branch : (tells : TellsOf rtype (step.Go hop to)) (branch : Branch) → Contains tells.arm.branches branch → TellsStep graph branch (step.Go hop to)
        → HasPair rtype to
    by_branch tells (Go other at) has (there, is, has_state) =
        let same : there ≡ to = cc in
        of_node rtype at to (subst (HasState graph at) same has_state)
        (built.is_graph.closed tells.at tells.node tells.arm rtype tells.is_arm tells.bit other at has)
    by_branch tells (End other leaf) has is = cc

    by : TellsOf rtype (step.Go hop to) → HasPair rtype to
    by tells = by_branch tells tells.branch tells.has tells.tells

  -- and end in no name that is too long
  ends_short : (rtype : RrType) (state : State) → HasPair rtype state → (hop : Option Hop) (leaf : Leaf) → Contains (next all rtype state) (step.End hop leaf)
      → is_overlong leaf ≡ false
  ends_short rtype state pair hop leaf has = by (told rtype state pair (step.End hop leaf) has) where
    by_branch : (tells : TellsOf rtype (step.End hop leaf)) (branch : Branch) → Contains tells.arm.branches branch → TellsStep graph branch (step.End hop leaf)
        → is_overlong leaf ≡ false
    by_branch tells (Go other at) has (there, is, has_state) = cc
    by_branch tells (End other end) has is =
        let same : end ≡ leaf = cc in
        let node = is_open.each tells.node (item_there graph.nodes tells.at tells.node tells.is_arm.is_node) in
        subst (λ (l : Leaf). is_overlong l ≡ false) same
        (none_so is_overlong_end tells.arm.branches (End other end)
        (none_so (λ (a : Arm). list_any is_overlong_end a.branches) tells.node.arms tells.arm node.none_overlong tells.is_arm.has_arm) has)

    by : TellsOf rtype (step.End hop leaf) → is_overlong leaf ≡ false
    by tells = by_branch tells tells.branch tells.has tells.tells

  begins : (rtype : RrType) (state : State) → Contains (start config (above ++ label ∷ [])) state → HasPair rtype state
  begins rtype state has =
      let there = beside_other (HasState graph) graph.starts (start config (above ++ label ∷ [])) state built.is_graph.starts has in
      of_node rtype there.0 state there.2 (built.is_graph.all_types there.0 there.1 rtype)

  some_top : config.tops ≢ []
  some_top none =
      is_open.some
      (none_beside (HasState graph) graph.starts (start config (above ++ label ∷ [])) built.is_graph.starts
      (ap (map (arrived config (above ++ label ∷ []) true 0 None)) none))

  module _ (first : List ℕ) (rest : Labels) (fits : most + tail_octets (first ∷ rest) ≤ 255) where
    abbrev other : Labels
    other = above ++ first ∷ rest

    abbrev there : Walk → Walk
    there = retail (length (label ∷ [])) (first ∷ rest)

    abbrev back : Walk → Walk
    back = retail (length (first ∷ rest)) (label ∷ [])

    module _ (followed : List Labels) where
      abbrev setting : Setting
      setting = following config rewrites followed

      opens_at : (rtype : RrType) (state : State) → HasPair rtype state → state.carried ≡ true → OpensAt config (label ∷ []) (first ∷ rest) state
      opens_at rtype state pair carried =
          let node = is_open.each pair.node (item_there graph.nodes pair.at pair.node pair.is_node) in
          let at : IsOpenState config label state most =
          subst (λ (s : State). IsOpenState config label s most) pair.state_is (node.carried (ap (λ (s : State). s.carried) pair.state_is ∙ carried)) in
          record {
            above = at.above;
            is = at.is;
            opens = record {
              near_own = near_above config at.above at.no_origin (label ∷ []);
              near_other = near_above config at.above at.no_origin (first ∷ rest);
              open_own = tail_opens config at.above at.no_origin state.server label [] at.no_name;
              open_other = tail_opens config at.above at.no_origin state.server first rest at.no_name;
            };
            short = omega (arith, at.few, fits, octets_below at.above (first ∷ rest));
          }

      all_open : (rtype : RrType) → AllOpen setting rtype (label ∷ []) (first ∷ rest) (HasPair rtype)
      all_open rtype = record {
        on = λ state pair hop to has. goes_on rtype state pair hop to (goes_before config rewrites followed rtype state hop to has);
        opens = opens_at rtype;
      }

      -- no walk of the query ends in a name that is too long
      own_short : (rtype : RrType) (numbers : List ℕ) (walk : Walk) → walk_along setting (above ++ label ∷ []) rtype numbers ≡ Some walk
          → is_overlong walk.leaf ≡ false
      own_short rtype numbers walk e =
          walk_ends setting rtype (HasPair rtype) (λ leaf. is_overlong leaf ≡ false) steps (above ++ label ∷ [])
          (λ number state is. begins rtype state (item_there (start config (above ++ label ∷ [])) number state is)) numbers walk e
        where
          steps : (state : State) → HasPair rtype state → (number : ℕ) (branch : step.Branch) → slice_get (next setting rtype state) number ≡ Some branch
              → LeadsSo (HasPair rtype) (λ leaf. is_overlong leaf ≡ false) branch
          steps state pair number (step.Go hop to) is =
              goes_on rtype state pair hop to
              (goes_before config rewrites followed rtype state hop to (item_there (next setting rtype state) number (step.Go hop to) is))
          steps state pair number (step.End hop leaf) is =
              ends_before config rewrites followed rtype state (ends_short rtype state pair) hop leaf
              (item_there (next setting rtype state) number (step.End hop leaf) is)

      pub own_bounded : (rtype : RrType) → IsBoundedWith setting (above ++ label ∷ []) rtype
      own_bounded rtype walk place (numbers, e) long = true≢false (sym (ap is_overlong long) ∙ own_short rtype numbers walk e)

      -- the name with the other labels walks as the query does
      pub walks_there : (rtype : RrType) → WalksAs setting rtype above (label ∷ []) (first ∷ rest)
      walks_there rtype = open_walks setting rtype above (label ∷ []) (first ∷ rest) (HasPair rtype) (all_open rtype) some_top (begins rtype)

      -- and the query as that name
      pub walks_back : (rtype : RrType) → WalksAs setting rtype above (first ∷ rest) (label ∷ [])
      walks_back rtype =
          open_back setting rtype above (label ∷ []) (first ∷ rest) (HasPair rtype) (all_open rtype) some_top (begins rtype) (own_bounded rtype)

      -- a walk of that name is one of the query with the labels replaced
      from_own : (rtype : RrType) (numbers : List ℕ) (walk : Walk) → walk_along setting other rtype numbers ≡ Some walk
          → (own : Walk) × (walk_along setting (above ++ label ∷ []) rtype numbers ≡ Some own) × (there own ≡ walk)
      from_own rtype numbers walk e = by (walk_along setting (above ++ label ∷ []) rtype numbers) refl where
        same : walk_along setting other rtype numbers ≡ option_map there (walk_along setting (above ++ label ∷ []) rtype numbers)
        same = (walks_there rtype).along (own_bounded rtype) numbers

        by : (found : Option Walk) → walk_along setting (above ++ label ∷ []) rtype numbers ≡ found
            → (own : Walk) × (found ≡ Some own) × (there own ≡ walk)
        by None is = let nothing : None ≡ Some walk = sym (same ∙ ap (option_map there) is) ∙ e in cc
        by (Some own) is = let whole : Some (there own) ≡ Some walk = sym (same ∙ ap (option_map there) is) ∙ e in (own, refl, (let one : there own ≡ walk = cc in one))

      -- so none ends in a name that is too long
      pub other_short : (rtype : RrType) (walk : Walk) → IsWalk setting other rtype walk → is_overlong walk.leaf ≡ false
      other_short rtype walk (numbers, e) =
          let (own, is, same) = from_own rtype numbers walk e in
          subst (λ (w : Walk). is_overlong w.leaf ≡ false) same (own_short rtype numbers own is)

      came_back : (rtype : RrType) (numbers : List ℕ) (walk : Walk) → walk_along setting other rtype numbers ≡ Some walk → walk ≡ there (back walk)
      came_back rtype numbers walk e =
          let (own, is, same) = from_own rtype numbers walk e in
          let turned = (walks_back rtype).walks numbers walk e (other_short rtype walk (numbers, e)) in
          let whole : Some own ≡ Some (back walk) = sym is ∙ turned in
          let one : own ≡ back walk = cc in
          sym same ∙ ap there one

    -- ---- the pairs of state and type

    abbrev back_pair : State × RrType → State × RrType
    back_pair pair = (retailed_state (length (first ∷ rest)) (label ∷ []) pair.0, pair.1)

    reached_back : (pair : State × RrType) → IsReached config rewrites other pair → IsReached config rewrites (above ++ label ∷ []) (back_pair pair)
    reached_back pair is = record {
      walk = back is.walk;
      is_walk = (
        is.is_walk.0,
        (walks_back (server_names config) pair.1).walks is.is_walk.0 is.walk is.is_walk.1 (other_short (server_names config) pair.1 is.walk is.is_walk),
      );
      stands = map_has (retailed_state (length (first ∷ rest)) (label ∷ [])) is.walk.states pair.0 is.stands;
    }

    state_back : (pair : State × RrType) → IsReached config rewrites other pair
        → pair.0 ≡ retailed_state (length (label ∷ [])) (first ∷ rest) (retailed_state (length (first ∷ rest)) (label ∷ []) pair.0)
    state_back pair is =
        each_fixed (retailed_state (length (label ∷ [])) (first ∷ rest)) (retailed_state (length (first ∷ rest)) (label ∷ [])) is.walk.states
        (ap (λ (w : Walk). w.states) (came_back (server_names config) pair.1 is.is_walk.0 is.walk is.is_walk.1)) pair.0 is.stands

    apart : (one two : State × RrType) → IsReached config rewrites other one → IsReached config rewrites other two → back_pair one ≡ back_pair two → one ≡ two
    apart one two first_is second_is e =
        let state : one.0 ≡ two.0 =
        state_back one first_is ∙ ap (λ (pair : State × RrType). retailed_state (length (label ∷ [])) (first ∷ rest) pair.0) e ∙ sym (state_back two second_is) in
        let rtype : one.1 ≡ two.1 = ap (λ (pair : State × RrType). pair.1) e in
        ap (λ (s : State). (s, one.1)) state ∙ ap (λ (t : RrType). (two.0, t)) rtype

    -- that name reaches no more of them than the query
    pub passes_back : (states : ℕ) → PassesStates config rewrites states other → PassesStates config rewrites states (above ++ label ∷ [])
    passes_back states =
        more_images (IsReached config rewrites other) (IsReached config rewrites (above ++ label ∷ [])) states back_pair reached_back apart
