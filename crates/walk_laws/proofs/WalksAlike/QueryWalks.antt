-- A query and the name with the other tail: their walks, and the pairs of state and type that they reach.
use Rattle.std.proofs.Common.{◌≡◌, ◌≢◌, ◌⊎◌, ◌↔◌, ℕ, zero, suc, ◌≤◌, Bool, true, false, List, [], ◌∷◌, ◌++◌, map, length, slice_get, Contains, Option, Some, None, IsSome, option_map, option_and_then, sym, refl, ap, ◌∙◌, subst, inl, inr, arith, true≢false}
use Rattle.std.specs.Prelude.{◌==◌, if◌then◌else◌}
use Rattle.std.specs.List.{AllByRecursion}
use Rattle.std.proofs.lemmas.Bool.{cases_lt}
use Rattle.std.proofs.lemmas.List.{append_cancel_right}
use Rattle.std.proofs.lemmas.List.Elements.{Contains-append_left}
use Rattle.std.proofs.lemmas.Option.{slice_get-map}
use Rattle.std.proofs.lemmas.Simd.{map-map}
use Rattle.dns_data.specs.Name.{Labels}
use Rattle.dns_data.specs.declared.rr_type.RrType.{RrType}
use Rattle.dns_data.proofs.Membership.{none_in_nil, has_first, has_later, first_or_later, map_has, all_images}
use Rattle.dns_data.proofs.NameFronts.{octets_below, tail_octets}
use Rattle.net_model.specs.declared.config.Config.{Config}
use Rattle.net_model.specs.declared.config.Zone.{Zone}
use Rattle.net_model.specs.declared.place.Place.{Place}
use Rattle.net_model.specs.declared.walk.Hop.{Hop}
use Rattle.net_model.specs.declared.walk.Leaf.{Leaf}
use Rattle.net_model.specs.declared.walk.Leaf.TheVariants.{Overlong}
use Rattle.net_model.specs.declared.walk.State.{State}
use Rattle.net_model.specs.declared.walk.Walk.{Walk}
use Rattle.net_model.specs.Nearest.{nearest_of, server_names}
use Rattle.net_model.specs.Retail.{retailed_name, retailed_state, retail}
use Rattle.net_model.specs.Step.{Setting, Go, following, arrived, start, next}
use Rattle.net_model.specs.Tails.{AreTails, is_overlong, IsFrontOf, WalksAs}
use Rattle.net_model.specs.Tree.{IsReached, AreReached, HasMoreThan}
use Rattle.net_model.specs.Walk.{walk_from, walk_along, IsWalk, AreWalks, IsBoundedWith}
use Rattle.walk_laws.proofs.WalksAlike.AlikeSteps.{retailed_tail, map_same, Follows, alike, follows_on}
use Rattle.walk_laws.proofs.WalksAlike.AlikeWalks.{StepsAlike, along_from, walk_kept, overlong_front, overlong_back}
use Rattle.net_model.proofs.Counting.{more_images, no_more_than}
use Rattle.net_model.proofs.EndsSomewhere.{ends_somewhere}
use Rattle.net_model.proofs.WalkEnds.{item}
use Rattle.net_model.proofs.Leads.{GoesOn, EndsBy, branch_taken}
use Rattle.walk_laws.proofs.WalksAlike.UnnamedTails.{nearest_with_tail}

-- a walk of a query begins at one of its start states
pub record BeginsAt (setting : Setting) (query : Labels) (rtype : RrType) (numbers : List ℕ) (walk : Walk) : Type 0 where
  pub number : ℕ
  pub rest : List ℕ
  pub numbers_are : numbers ≡ number ∷ rest
  pub state : State
  pub starts : slice_get (start setting.config query) number ≡ Some state
  pub goes : walk_from setting rtype rest state ≡ Some walk

-- the numbers of a walk begin with that of a start state of the query, from which the others lead along the walk
pub begins_at : (setting : Setting) (query : Labels) (rtype : RrType) (numbers : List ℕ) (walk : Walk)
    → walk_along setting query rtype numbers ≡ Some walk → BeginsAt setting query rtype numbers walk
begins_at setting query rtype [] walk e = cc
begins_at setting query rtype (number ∷ numbers) walk e = by (slice_get (start setting.config query) number) refl e where
  by : (begin : Option State) → slice_get (start setting.config query) number ≡ begin
      → option_and_then (walk_from setting rtype numbers) begin ≡ Some walk → BeginsAt setting query rtype (number ∷ numbers) walk
  by None is e = cc
  by (Some state) is e = record { number = number; rest = numbers; numbers_are = refl; state = state; starts = is; goes = e }

-- a walk from a start state of a query is a walk of the query
pub begun_walk : (setting : Setting) (query : Labels) (rtype : RrType) (number : ℕ) (numbers : List ℕ) (state : State) (walk : Walk)
    → slice_get (start setting.config query) number ≡ Some state → walk_from setting rtype numbers state ≡ Some walk
    → walk_along setting query rtype (number ∷ numbers) ≡ Some walk
begun_walk setting query rtype number numbers state walk is goes = ap (option_and_then (walk_from setting rtype numbers)) is ∙ goes

-- a leaf that isn't at any place overlong isn't overlong
not_overlong : (leaf : Leaf) → ((place : Place) → leaf ≢ Overlong place) → is_overlong leaf ≡ false
not_overlong (Overlong place) never = absurd (never place refl)
not_overlong _ never = refl

-- an image is there where what it is of is
pub some_image : {X Y : Type 0} (f : X → Y) (o : Option X) → IsSome (option_map f o) ↔ IsSome o
some_image f None = ((λ is. is), (λ is. is))
some_image f (Some x) = ((λ is. refl), (λ is. refl))

-- the images of what is there
pub some_images : {X Y : Type 0} (f : X → Y) (xs : List X) → map (option_map f) (map (λ (x : X). Some x) xs) ≡ map (λ (y : Y). Some y) (map f xs)
some_images f [] = refl
some_images f (x ∷ xs) = ap (λ rest. Some (f x) ∷ rest) (some_images f xs)

-- The query begins in states of a kind, and the other name in these with the tail replaced.
pub record BeginAlike (setting : Setting) (above own other : Labels) (Among : State → Type 0) : Type 0 where
  pub starts : start setting.config (above ++ other) ≡ map (retailed_state (length own) other) (start setting.config (above ++ own))
  pub among : (number : ℕ) (state : State) → slice_get (start setting.config (above ++ own)) number ≡ Some state → Among state

module _ (setting : Setting) (above own other : Labels) (rtype : RrType) (Among : State → Type 0) (begins : BeginAlike setting above own other Among)
    (steps : StepsAlike setting rtype own other Among) where
  abbrev state_with : State → State
  state_with = retailed_state (length own) other

  abbrev walk_with : Walk → Walk
  walk_with = retail (length own) other

  started : (number : ℕ) → slice_get (start setting.config (above ++ other)) number ≡ option_map state_with (slice_get (start setting.config (above ++ own)) number)
  started number =
      ap (λ (states : List State). slice_get states number) begins.starts ∙ slice_get-map state_with (start setting.config (above ++ own)) number

  -- where a query has a start state there is a top server
  has_tops : (number : ℕ) (state : State) → slice_get (start setting.config (above ++ own)) number ≡ Some state → setting.config.tops ≢ []
  has_tops number state is none =
      let nothing : slice_get {X = State} [] number ≡ Some state =
      ap (λ (tops : List Labels). slice_get (map (arrived setting.config (above ++ own) true 0 None) tops) number) (sym none) ∙ is in
      no_item number nothing
    where
      no_item : (number : ℕ) → slice_get {X = State} [] number ≡ Some state → ⊥
      no_item zero e = cc
      no_item (suc number) e = cc

  -- a walk of the query that doesn't end overlong is, with the tail replaced, one of the other name
  pub kept_along : (numbers : List ℕ) (walk : Walk) → walk_along setting (above ++ own) rtype numbers ≡ Some walk → is_overlong walk.leaf ≡ false
      → walk_along setting (above ++ other) rtype numbers ≡ Some (walk_with walk)
  kept_along numbers walk e good =
      let begun = begins_at setting (above ++ own) rtype numbers walk e in
      ap (walk_along setting (above ++ other) rtype) begun.numbers_are
      ∙ begun_walk setting (above ++ other) rtype begun.number begun.rest (state_with begun.state) (walk_with walk)
      (started begun.number ∙ ap (option_map state_with) begun.starts)
      (walk_kept setting rtype own other Among steps begun.rest begun.state walk (begins.among begun.number begun.state begun.starts) begun.goes good)

  alike_along : IsBoundedWith setting (above ++ own) rtype → (numbers : List ℕ)
      → walk_along setting (above ++ other) rtype numbers ≡ option_map walk_with (walk_along setting (above ++ own) rtype numbers)
  alike_along bounded [] = refl
  alike_along bounded (number ∷ numbers) =
      ap (option_and_then (walk_from setting rtype numbers)) (started number) ∙ by (slice_get (start setting.config (above ++ own)) number) refl
    where
      by : (begin : Option State) → slice_get (start setting.config (above ++ own)) number ≡ begin
          → option_and_then (walk_from setting rtype numbers) (option_map state_with begin) ≡ option_map walk_with (option_and_then (walk_from setting rtype numbers) begin)
      by None is = refl
      by (Some state) is =
          along_from setting rtype own other Among steps numbers state (begins.among number state is)
          (λ ns walk goes. not_overlong walk.leaf
          (λ place. bounded walk place (number ∷ ns, begun_walk setting (above ++ own) rtype number ns state walk is goes)))

  alike_bounded : IsBoundedWith setting (above ++ own) rtype → (walks : List Walk) → AreWalks setting (above ++ own) rtype walks
      → AreWalks setting (above ++ other) rtype (map walk_with walks)
  alike_bounded bounded walks (paths, are, listed) = (
    paths,
    record {
      ordered = are.ordered;
      all = λ numbers. (
        (λ has. subst (λ (o : Option Walk). IsSome o) (sym (alike_along bounded numbers))
            ((some_image walk_with (walk_along setting (above ++ own) rtype numbers)).1 ((are.all numbers).0 has))),
        (λ is. (are.all numbers).1 ((some_image walk_with (walk_along setting (above ++ own) rtype numbers)).0
            (subst (λ (o : Option Walk). IsSome o) (alike_along bounded numbers) is))),
      );
    },
    map_same (walk_along setting (above ++ other) rtype) (λ (numbers : List ℕ). option_map walk_with (walk_along setting (above ++ own) rtype numbers)) paths
        (alike_along bounded)
        ∙ sym (map-map (option_map walk_with) (walk_along setting (above ++ own) rtype) paths)
        ∙ ap (map (option_map walk_with)) listed ∙ some_images walk_with walks,
  )

  -- a walk of the query is, with the tail replaced, the front of one of the other name
  pub front_along : (walk : Walk) → IsWalk setting (above ++ own) rtype walk
      → (whole : Walk) × IsWalk setting (above ++ other) rtype whole × IsFrontOf (walk_with walk) whole
  front_along walk (numbers, e) =
      let begun = begins_at setting (above ++ own) rtype numbers walk e in
      let front =
      overlong_front setting rtype own other Among steps (ends_somewhere setting rtype (has_tops begun.number begun.state begun.starts)) begun.rest begun.state walk
      (begins.among begun.number begun.state begun.starts) begun.goes in (
        front.1,
        (
          begun.number ∷ front.0,
          begun_walk setting (above ++ other) rtype begun.number front.0 (state_with begun.state) front.1
              (started begun.number ∙ ap (option_map state_with) begun.starts) front.2,
        ),
        front.3,
      )

  -- with the other tail the name walks as the query does
  pub walks_alike : WalksAs setting rtype above own other
  walks_alike =
      record {
        walks = kept_along;
        bounded = alike_bounded;
        along = alike_along;
        overlong = λ walk is long. front_along walk is;
      }

  -- where the name with the other tail meets an overlong rewrite, so does the query
  pub overlong_alike : (walk : Walk) → IsWalk setting (above ++ other) rtype walk → is_overlong walk.leaf ≡ true
      → (of_own : Walk) × IsWalk setting (above ++ own) rtype of_own × (is_overlong of_own.leaf ≡ true)
  overlong_alike walk (numbers, e) long =
      let begun = begins_at setting (above ++ other) rtype numbers walk e in
      by begun (slice_get (start setting.config (above ++ own)) begun.number) refl
    where
      by : (begun : BeginsAt setting (above ++ other) rtype numbers walk) → (begin : Option State) → slice_get (start setting.config (above ++ own)) begun.number ≡ begin
          → (of_own : Walk) × IsWalk setting (above ++ own) rtype of_own × (is_overlong of_own.leaf ≡ true)
      by begun None is =
          let nothing : None ≡ Some begun.state = sym (started begun.number ∙ ap (option_map state_with) is) ∙ begun.starts in cc
      by begun (Some state) is =
          let there : Some (state_with state) ≡ Some begun.state = sym (started begun.number ∙ ap (option_map state_with) is) ∙ begun.starts in
          let same : state_with state ≡ begun.state = cc in
          let found =
          overlong_back setting rtype own other Among steps begun.rest state walk (begins.among begun.number state is)
          (ap (walk_from setting rtype begun.rest) same ∙ begun.goes) long in
          (found.1, (begun.number ∷ found.0, begun_walk setting (above ++ own) rtype begun.number found.0 state found.1 is found.2), found.3)

module _ (setting : Setting) (above own other : Labels) (tails : AreTails setting.config above own other) where
  abbrev changed_state : State → State
  changed_state = retailed_state (length own) other

  abbrev changed : Walk → Walk
  changed = retail (length own) other

  shorter : tail_octets other ≤ tail_octets own
  shorter = omega (arith, tails.no_longer, octets_below above own, octets_below above other)

  -- ---- how they begin

  -- the start state at a server, with the zone in which it looks the name up
  abbrev start_at : Labels → Labels → Option Zone → State
  start_at server name zone =
      record { server = server; name = name; carried = true; cut = 0; used = 0; last = None; zone = option_map (λ z. z.origin) zone }

  start_alike : (server : Labels) → arrived setting.config (above ++ other) true 0 None server ≡ changed_state (arrived setting.config (above ++ own) true 0 None server)
  start_alike server =
      ap (start_at server (above ++ other))
      (nearest_with_tail setting.config above other tails.of_other server ∙ sym (nearest_with_tail setting.config above own tails.of_own server))
      ∙ ap (λ (name : Labels). start_at server name (nearest_of setting.config server (above ++ own))) (sym (retailed_tail above own other))

  starts_alike : start setting.config (above ++ other) ≡ map changed_state (start setting.config (above ++ own))
  starts_alike =
      map_same (arrived setting.config (above ++ other) true 0 None) (λ (server : Labels). changed_state (arrived setting.config (above ++ own) true 0 None server))
      setting.config.tops start_alike
      ∙ sym (map-map changed_state (arrived setting.config (above ++ own) true 0 None) setting.config.tops)

  start_follows : (number : ℕ) (state : State) → slice_get (start setting.config (above ++ own)) number ≡ Some state → Follows setting.config own other state
  start_follows number state is =
      item (Follows setting.config own other) (start setting.config (above ++ own)) number state
      (all_images (arrived setting.config (above ++ own) true 0 None) (Follows setting.config own other) setting.config.tops
      (λ server has carried. record { above = above; is = refl; of_own = tails.of_own; of_other = tails.of_other })) is

  -- ---- their walks

  begin_alike : BeginAlike setting above own other (Follows setting.config own other)
  begin_alike = record { starts = starts_alike; among = start_follows }

  module _ (rtype : RrType) where
    steps_alike : StepsAlike setting rtype own other (Follows setting.config own other)
    steps_alike = record { alike = λ state follows. alike setting rtype own other state shorter follows; on = follows_on setting rtype own other }

    -- a walk of the query that doesn't end overlong is, with the tail replaced, one of the other name
    pub walks_kept : (numbers : List ℕ) (walk : Walk) → walk_along setting (above ++ own) rtype numbers ≡ Some walk → is_overlong walk.leaf ≡ false
        → walk_along setting (above ++ other) rtype numbers ≡ Some (changed walk)
    walks_kept = kept_along setting above own other rtype (Follows setting.config own other) begin_alike steps_alike

    -- a walk of the query is, with the tail replaced, the front of one of the other name
    pub front_kept : (walk : Walk) → IsWalk setting (above ++ own) rtype walk
        → (whole : Walk) × IsWalk setting (above ++ other) rtype whole × IsFrontOf (changed walk) whole
    front_kept = front_along setting above own other rtype (Follows setting.config own other) begin_alike steps_alike

    -- with the other tail the name walks as the query does. Below an unnamed name no zone has an origin and no record an
    -- owner (UnnamedTails.far_names), so at each step both names are looked up in one zone (nearest_with_tail) and one
    -- value decides for both (OpenTails.open_tail); a redirection keeps both tails unnamed (UnnamedTails.redirected_tail).
    -- So the branches of a step are the same with the tail replaced, unless the query's end overlong, as those of the other
    -- name, which isn't longer, need not (AlikeSteps.alike); and the states behind them have the tails again (follows_on).
    -- Number by number this makes walks (AlikeWalks.along_from, walk_kept), and the front of a walk where the query's ends
    -- overlong (overlong_front), which some walk continues, since each state has a walk (EndsSomewhere.ends_somewhere).
    pub walks_as : WalksAs setting rtype above own other
    walks_as = walks_alike setting above own other rtype (Follows setting.config own other) begin_alike steps_alike

    -- where the name with the other tail meets an overlong rewrite, so does the query. It goes along the same numbers:
    -- where its step isn't alike (AlikeSteps.alike) it has met one, and at the end its name, which is no shorter, meets one
    -- too (AlikeWalks.overlong_back).
    pub overlong_too : (walk : Walk) → IsWalk setting (above ++ other) rtype walk → is_overlong walk.leaf ≡ true
        → (of_own : Walk) × IsWalk setting (above ++ own) rtype of_own × (is_overlong of_own.leaf ≡ true)
    overlong_too = overlong_alike setting above own other rtype (Follows setting.config own other) begin_alike steps_alike

    -- ---- the states on them

    -- each state on a walk of the query has the query's tail, if its name is carried
    states_follow : (numbers : List ℕ) (from : State) (walk : Walk) → Follows setting.config own other from → walk_from setting rtype numbers from ≡ Some walk
        → (state : State) → Contains walk.states state → Follows setting.config own other state
    states_follow [] from walk follows e state has = cc
    states_follow (number ∷ numbers) from walk follows e state has =
        by (branch_taken from (length numbers == 0) (walk_from setting rtype numbers) (slice_get (next setting rtype from) number) walk e)
        (λ hop to later is goes later_has. states_follow numbers to later (follows_on setting rtype own other from follows number hop to is) goes state later_has)
      where
        at_first : (rest : List State) → ((later_has : Contains rest state) → Follows setting.config own other state) → Contains (from ∷ rest) state
            → Follows setting.config own other state
        at_first rest later all =
            elim (first_or_later from rest state all) [
              | inl same ↦ subst (Follows setting.config own other) same follows
              | inr behind ↦ later behind
            ]

        by : GoesOn from (walk_from setting rtype numbers) (slice_get (next setting rtype from) number) walk
            ⊎ EndsBy from (slice_get (next setting rtype from) number) walk
            → ((hop : Hop) (to : State) (later : Walk) → slice_get (next setting rtype from) number ≡ Some (Go hop to)
            → walk_from setting rtype numbers to ≡ Some later → Contains later.states state → Follows setting.config own other state)
            → Follows setting.config own other state
        by (inl goes) rest =
            at_first goes.later.states (rest goes.hop goes.to goes.later goes.is goes.goes)
            (subst (λ (w : Walk). Contains w.states state) (sym goes.made) has)
        by (inr ends) rest =
            at_first [] (λ none. absurd (none_in_nil state none)) (subst (λ (w : Walk). Contains w.states state) (sym ends.made) has)

  -- states of the query that are one with the tail replaced are one
  same_states : (one two : State) → Follows setting.config own other one → Follows setting.config own other two → changed_state one ≡ changed_state two → one ≡ two
  same_states one two first second e = by one.carried two.carried refl refl e where
    by : (b c : Bool) → one.carried ≡ b → two.carried ≡ c
        → (if b then record one { name = retailed_name (length own) other one.name } else one)
        ≡ (if c then record two { name = retailed_name (length own) other two.name } else two)
        → one ≡ two
    by true true carried also e =
        let here = first carried in
        let there = second also in
        let ends : here.above ++ other ≡ there.above ++ other =
        sym (ap (retailed_name (length own) other) here.is ∙ retailed_tail here.above own other)
        ∙ ap (λ (s : State). s.name) e
        ∙ ap (retailed_name (length own) other) there.is ∙ retailed_tail there.above own other in
        let name : two.name ≡ one.name =
        there.is ∙ ap (λ (x : Labels). x ++ own) (sym (append_cancel_right here.above there.above other ends)) ∙ sym here.is in
        ap (λ (s : State). record s { name = one.name }) e ∙ ap (λ (n : Labels). record two { name = n }) (sym name)
    by true false carried also e = absurd (true≢false (sym carried ∙ ap (λ (s : State). s.carried) e ∙ also))
    by false true carried also e = absurd (true≢false (sym also ∙ sym (ap (λ (s : State). s.carried) e) ∙ carried))
    by false false carried also e = e

module _ (config : Config) (rewrites : ℕ) (above own other : Labels) (tails : AreTails config above own other) where
  abbrev every : Setting
  every = following config rewrites (server_names config)

  -- a pair with the tail replaced
  abbrev changed_pair : State × RrType → State × RrType
  changed_pair pair = (retailed_state (length own) other pair.0, pair.1)

  reached_follows : (pair : State × RrType) → IsReached config rewrites (above ++ own) pair → Follows config own other pair.0
  reached_follows pair is =
      let begun = begins_at every (above ++ own) pair.1 is.is_walk.0 is.walk is.is_walk.1 in
      states_follow every above own other tails pair.1 begun.rest begun.state is.walk
      (start_follows every above own other tails begun.number begun.state begun.starts) begun.goes pair.0 is.stands

  reached_kept : (pair : State × RrType) → IsReached config rewrites (above ++ own) pair → IsReached config rewrites (above ++ other) (changed_pair pair)
  reached_kept pair is =
      let kept = front_kept every above own other tails pair.1 is.walk is.is_walk in
      record {
        walk = kept.0;
        is_walk = kept.1;
        stands =
            subst (λ (states : List State). Contains states (retailed_state (length own) other pair.0)) (sym kept.2.states_are)
            (Contains-append_left (map (retailed_state (length own) other) is.walk.states) kept.2.states (retailed_state (length own) other pair.0)
            (map_has (retailed_state (length own) other) is.walk.states pair.0 is.stands));
      }

  reached_apart : (one two : State × RrType) → IsReached config rewrites (above ++ own) one → IsReached config rewrites (above ++ own) two
      → changed_pair one ≡ changed_pair two → one ≡ two
  reached_apart one two first second e =
      let state : one.0 ≡ two.0 =
      same_states every above own other tails one.0 two.0 (reached_follows one first) (reached_follows two second) (ap (λ (pair : State × RrType). pair.0) e) in
      let rtype : one.1 ≡ two.1 = ap (λ (pair : State × RrType). pair.1) e in
      ap (λ (s : State). (s, one.1)) state ∙ ap (λ (t : RrType). (two.0, t)) rtype

  -- where the query reaches more than so many pairs, so does the name with the other tail
  pub reaches_more : (most : ℕ) → HasMoreThan (IsReached config rewrites (above ++ own)) most → HasMoreThan (IsReached config rewrites (above ++ other)) most
  reaches_more most =
      more_images (IsReached config rewrites (above ++ own)) (IsReached config rewrites (above ++ other)) most changed_pair reached_kept reached_apart

  -- the name with the other tail reaches no fewer pairs than the query. Each pair of the query is, with the tail
  -- replaced, one of the other name (reached_kept, by front_kept), and no two pairs become one (reached_apart), since
  -- the name of each state ends in the query's tail (states_follow); and as many images as there are pairs differ
  -- (Counting.more_images).
  pub reaches_no_fewer : (of_own of_other : List (State × RrType)) → AreReached config rewrites (above ++ own) of_own → AreReached config rewrites (above ++ other) of_other
      → length of_own ≤ length of_other
  reaches_no_fewer of_own of_other own_are other_are =
      elim (cases_lt (length of_other) (length of_own)) [
        | inr fits ↦ fits
        | inl more ↦ absurd (no_more_than (IsReached config rewrites (above ++ other)) (length of_other) of_other (omega arith)
            (λ pair is. (other_are.all pair).1 is)
            (reaches_more (length of_other)
            (record {
              items = of_own;
              more = more;
              differ = own_are.once;
              each = each_of of_own (λ pair has. (own_are.all pair).0 has);
            })))
      ]
    where
      each_of : (pairs : List (State × RrType)) → ((pair : State × RrType) → Contains pairs pair → IsReached config rewrites (above ++ own) pair)
          → AllByRecursion (IsReached config rewrites (above ++ own)) pairs
      each_of [] each = tt
      each_of (pair ∷ pairs) each = (each pair (has_first pair pairs), each_of pairs (λ x has. each x (has_later pair pairs x has)))
