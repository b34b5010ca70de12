-- Whole walks of a query and of the name with the other tail: they correspond branch by branch, until one of the query ends
-- overlong.
use Rattle.std.proofs.Common.{◌≡◌, ◌⊎◌, ℕ, zero, suc, Bool, true, false, ◌==◌, List, [], ◌∷◌, ◌++◌, map, length, slice_get, Option, Some, None, option_map, sym, refl, ap, ◌∙◌, subst, inl, inr, true≢false}
use Rattle.std.specs.Option.{option_to_list}
use Rattle.std.proofs.lemmas.Option.{slice_get-map}
use Rattle.dns_data.specs.Name.{Labels}
use Rattle.dns_data.specs.declared.rr_type.RrType.{RrType}
use Rattle.net_model.specs.declared.place.Place.{Place}
use Rattle.net_model.specs.declared.walk.Hop.{Hop}
use Rattle.net_model.specs.declared.walk.Leaf.{Leaf}
use Rattle.net_model.specs.declared.walk.Leaf.TheVariants.{Overlong}
use Rattle.net_model.specs.declared.walk.State.{State}
use Rattle.net_model.specs.declared.walk.Walk.{Walk}
use Rattle.net_model.specs.Retail.{retailed_state, retailed_hop, retailed_hops, retail}
use Rattle.net_model.specs.Step.{Setting, Branch, Go, End, next}
use Rattle.net_model.specs.Tails.{is_overlong, IsFrontOf}
use Rattle.net_model.specs.Walk.{led_on, branched, walk_from}
use Rattle.walk_laws.proofs.WalksAlike.AlikeSteps.{retailed_branch, Alike}
use Rattle.net_model.proofs.Leads.{GoesOn, EndsBy, branch_taken, first_state}

-- a walk from a state by a branch that goes on, and then along the numbers
led_walk : (setting : Setting) (rtype : RrType) (number : ℕ) (numbers : List ℕ) (state to : State) (hop : Hop) (later : Walk)
    → slice_get (next setting rtype state) number ≡ Some (Go hop to) → walk_from setting rtype numbers to ≡ Some later
    → walk_from setting rtype (number ∷ numbers) state ≡ Some (led_on state hop later)
led_walk setting rtype number numbers state to hop later is goes =
    ap (branched state (length numbers == 0) (walk_from setting rtype numbers)) is ∙ ap (option_map (led_on state hop)) goes

-- a walk from a state by a branch that ends
ended_walk : (setting : Setting) (rtype : RrType) (number : ℕ) (state : State) (hop : Option Hop) (leaf : Leaf)
    → slice_get (next setting rtype state) number ≡ Some (End hop leaf)
    → walk_from setting rtype (number ∷ []) state ≡ Some (record { states = state ∷ []; hops = option_to_list hop; leaf = leaf })
ended_walk setting rtype number state hop leaf is = ap (branched state true (walk_from setting rtype [])) is

module _ (setting : Setting) (rtype : RrType) (own other : Labels) where
  abbrev changed_state : State → State
  changed_state = retailed_state (length own) other

  abbrev changed_branch : State → Branch → Branch
  changed_branch state = retailed_branch (length own) other state.carried

  abbrev changed : Walk → Walk
  changed = retail (length own) other

  -- Walks go on from states of a kind to such states alone, and each branches as with the tail replaced, unless its
  -- branches end overlong.
  pub record StepsAlike (Among : State → Type 0) : Type 0 where
    pub alike : (state : State) → Among state → Alike (length own) other state.carried (next setting rtype state) (next setting rtype (retailed_state (length own) other state))
    pub on : (state : State) → Among state → (number : ℕ) (hop : Hop) (to : State) → slice_get (next setting rtype state) number ≡ Some (Go hop to) → Among to

  -- the name with the other tail goes the same way by a branch, if it does so behind it
  branched_alike : (state : State) (is_last : Bool) (on on_other : State → Option Walk) (branch : Option Branch)
      → ((hop : Hop) (to : State) → branch ≡ Some (Go hop to) → on_other (changed_state to) ≡ option_map changed (on to))
      → branched (changed_state state) is_last on_other (option_map (changed_branch state) branch) ≡ option_map changed (branched state is_last on branch)
  branched_alike state is_last on on_other None goes = refl
  branched_alike state is_last on on_other (Some (Go hop to)) goes =
      ap (option_map (led_on (changed_state state) (retailed_hop (length own) other state.carried hop))) (goes hop to refl) ∙ by (on to)
    where
      by : (later : Option Walk)
          → option_map (led_on (changed_state state) (retailed_hop (length own) other state.carried hop)) (option_map changed later)
          ≡ option_map changed (option_map (led_on state hop) later)
      by None = refl
      by (Some later) = refl
  branched_alike state true on on_other (Some (End None leaf)) goes = refl
  branched_alike state true on on_other (Some (End (Some hop) leaf)) goes = refl
  branched_alike state false on on_other (Some (End hop leaf)) goes = refl

  -- the branch with a number, where the two step alike
  same_branch : (state : State) (number : ℕ) → next setting rtype (changed_state state) ≡ map (changed_branch state) (next setting rtype state)
      → slice_get (next setting rtype (changed_state state)) number ≡ option_map (changed_branch state) (slice_get (next setting rtype state) number)
  same_branch state number same =
      ap (λ (branches : List Branch). slice_get branches number) same ∙ slice_get-map (changed_branch state) (next setting rtype state) number

  along_same : (state : State) (number : ℕ) (numbers : List ℕ) → next setting rtype (changed_state state) ≡ map (changed_branch state) (next setting rtype state)
      → ((hop : Hop) (to : State) → slice_get (next setting rtype state) number ≡ Some (Go hop to)
      → walk_from setting rtype numbers (changed_state to) ≡ option_map changed (walk_from setting rtype numbers to))
      → walk_from setting rtype (number ∷ numbers) (changed_state state) ≡ option_map changed (walk_from setting rtype (number ∷ numbers) state)
  along_same state number numbers same goes =
      ap (branched (changed_state state) (length numbers == 0) (walk_from setting rtype numbers)) (same_branch state number same)
      ∙ branched_alike state (length numbers == 0) (walk_from setting rtype numbers) (walk_from setting rtype numbers)
      (slice_get (next setting rtype state) number) goes

  -- where a state's branches end overlong, its walk is that end
  only_end : (state : State) (place : Place) (is_last : Bool) (on : State → Option Walk) (number : ℕ) (walk : Walk)
      → branched state is_last on (slice_get (End None (Overlong place) ∷ []) number) ≡ Some walk
      → record { states = state ∷ []; hops = []; leaf = Overlong place } ≡ walk
  only_end state place true on zero walk e = cc
  only_end state place false on zero walk e = cc
  only_end state place is_last on (suc number) walk e = cc

  overlong_end : (state : State) (place : Place) (number : ℕ) (numbers : List ℕ) (walk : Walk)
      → next setting rtype state ≡ End None (Overlong place) ∷ [] → walk_from setting rtype (number ∷ numbers) state ≡ Some walk
      → record { states = state ∷ []; hops = []; leaf = Overlong place } ≡ walk
  overlong_end state place number numbers walk ends e =
      only_end state place (length numbers == 0) (walk_from setting rtype numbers) number walk
      (ap (λ (branches : List Branch). branched state (length numbers == 0) (walk_from setting rtype numbers) (slice_get branches number)) (sym ends) ∙ e)

  module _ (Among : State → Type 0) (steps : StepsAlike Among) where
    -- ---- where no walk of the query ends overlong

    -- no walk from the state ends overlong
    abbrev pub NoneOverlong : State → Type 0
    NoneOverlong state = (numbers : List ℕ) (walk : Walk) → walk_from setting rtype numbers state ≡ Some walk → is_overlong walk.leaf ≡ false

    -- if no walk from a state ends overlong, by the same numbers the other name has the same walk with the tail
    -- replaced, or neither has one
    pub along_from : (numbers : List ℕ) (state : State) → Among state → NoneOverlong state
        → walk_from setting rtype numbers (changed_state state) ≡ option_map changed (walk_from setting rtype numbers state)
    along_from [] state among none = refl
    along_from (number ∷ numbers) state among none =
        by (steps.alike state among)
        (λ hop to is. along_from numbers to (steps.on state among number hop to is)
        (λ ns w e. none (number ∷ ns) (led_on state hop w) (led_walk setting rtype number ns state to hop w is e)))
      where
        by : Alike (length own) other state.carried (next setting rtype state) (next setting rtype (changed_state state))
            → ((hop : Hop) (to : State) → slice_get (next setting rtype state) number ≡ Some (Go hop to)
            → walk_from setting rtype numbers (changed_state to) ≡ option_map changed (walk_from setting rtype numbers to))
            → walk_from setting rtype (number ∷ numbers) (changed_state state) ≡ option_map changed (walk_from setting rtype (number ∷ numbers) state)
        by (inl same) goes = along_same state number numbers same goes
        by (inr (place, ends)) goes =
            absurd (true≢false (none (0 ∷ []) (record { states = state ∷ []; hops = []; leaf = Overlong place })
            (ended_walk setting rtype 0 state None (Overlong place) (ap (λ (branches : List Branch). slice_get branches 0) ends))))

    -- ---- a walk of the query that doesn't end overlong

    -- a walk of the query that doesn't end overlong is, with the tail replaced, a walk of the other name
    pub walk_kept : (numbers : List ℕ) (state : State) (walk : Walk) → Among state
        → walk_from setting rtype numbers state ≡ Some walk → is_overlong walk.leaf ≡ false
        → walk_from setting rtype numbers (changed_state state) ≡ Some (changed walk)
    walk_kept [] state walk among e good = cc
    walk_kept (number ∷ numbers) state walk among e good =
        by (steps.alike state among) (λ hop to is. behind hop to is (walk_from setting rtype numbers to) refl
        (λ later goes kept. walk_kept numbers to later (steps.on state among number hop to is) goes kept))
      where
        behind : (hop : Hop) (to : State) → slice_get (next setting rtype state) number ≡ Some (Go hop to)
            → (found : Option Walk) → walk_from setting rtype numbers to ≡ found
            → ((later : Walk) → walk_from setting rtype numbers to ≡ Some later → is_overlong later.leaf ≡ false
            → walk_from setting rtype numbers (changed_state to) ≡ Some (changed later))
            → walk_from setting rtype numbers (changed_state to) ≡ option_map changed (walk_from setting rtype numbers to)
        behind hop to is None goes kept =
            let nothing : None ≡ Some walk =
            sym (ap (branched state (length numbers == 0) (walk_from setting rtype numbers)) is ∙ ap (option_map (led_on state hop)) goes) ∙ e in
            cc
        behind hop to is (Some later) goes kept =
            let whole : Some (led_on state hop later) ≡ Some walk = sym (led_walk setting rtype number numbers state to hop later is goes) ∙ e in
            let same : led_on state hop later ≡ walk = cc in
            kept later goes (ap (λ (w : Walk). is_overlong w.leaf) same ∙ good) ∙ sym (ap (option_map changed) goes)

        by : Alike (length own) other state.carried (next setting rtype state) (next setting rtype (changed_state state))
            → ((hop : Hop) (to : State) → slice_get (next setting rtype state) number ≡ Some (Go hop to)
            → walk_from setting rtype numbers (changed_state to) ≡ option_map changed (walk_from setting rtype numbers to))
            → walk_from setting rtype (number ∷ numbers) (changed_state state) ≡ Some (changed walk)
        by (inl same) goes = along_same state number numbers same goes ∙ ap (option_map changed) e
        by (inr (place, ends)) goes =
            let is = overlong_end state place number numbers walk ends e in
            absurd (true≢false (ap (λ (w : Walk). is_overlong w.leaf) is ∙ good))

    -- ---- a walk of the query that ends overlong

    -- with the tail replaced the walk is the front of a walk from the state with the other tail
    abbrev pub FrontFrom : State → Walk → Type 0
    FrontFrom state walk =
        (numbers : List ℕ) × (whole : Walk) × (walk_from setting rtype numbers (changed_state state) ≡ Some whole) × IsFrontOf (changed walk) whole

    -- the front of any walk is its first state
    front_of_any : (state : State) (place : Place)
        → ((numbers : List ℕ) × (whole : Walk) × (walk_from setting rtype numbers (changed_state state) ≡ Some whole))
        → FrontFrom state (record { states = state ∷ []; hops = []; leaf = Overlong place })
    front_of_any state place (numbers, whole, goes) =
        let first = first_state setting rtype numbers (changed_state state) whole goes in (
          numbers,
          whole,
          goes,
          record { states = first.0; states_are = first.1; hops = whole.hops; hops_are = refl },
        )

    hops_stay : (state : State) (hop : Option Hop)
        → option_to_list (option_map (retailed_hop (length own) other state.carried) hop) ≡ retailed_hops (length own) other (state ∷ []) (option_to_list hop) ++ []
    hops_stay state None = refl
    hops_stay state (Some hop) = refl

    front_led : (state to : State) (hop : Hop) (number : ℕ) (later : Walk)
        → next setting rtype (changed_state state) ≡ map (changed_branch state) (next setting rtype state)
        → slice_get (next setting rtype state) number ≡ Some (Go hop to) → FrontFrom to later → FrontFrom state (led_on state hop later)
    front_led state to hop number later same is (numbers, whole, goes, front) = (
      number ∷ numbers,
      led_on (changed_state state) (retailed_hop (length own) other state.carried hop) whole,
      led_walk setting rtype number numbers (changed_state state) (changed_state to) (retailed_hop (length own) other state.carried hop) whole
          (same_branch state number same ∙ ap (option_map (changed_branch state)) is) goes,
      record {
        states = front.states;
        states_are = ap (λ (all : List State). changed_state state ∷ all) front.states_are;
        hops = front.hops;
        hops_are = ap (λ (all : List Hop). retailed_hop (length own) other state.carried hop ∷ all) front.hops_are;
      },
    )

    front_ended : (state : State) (hop : Option Hop) (leaf : Leaf) (number : ℕ)
        → next setting rtype (changed_state state) ≡ map (changed_branch state) (next setting rtype state)
        → slice_get (next setting rtype state) number ≡ Some (End hop leaf)
        → FrontFrom state (record { states = state ∷ []; hops = option_to_list hop; leaf = leaf })
    front_ended state hop leaf number same is = (
      number ∷ [],
      record { states = changed_state state ∷ []; hops = option_to_list (option_map (retailed_hop (length own) other state.carried) hop); leaf = leaf },
      ended_walk setting rtype number (changed_state state) (option_map (retailed_hop (length own) other state.carried) hop) leaf
          (same_branch state number same ∙ ap (option_map (changed_branch state)) is),
      record { states = []; states_are = refl; hops = []; hops_are = hops_stay state hop },
    )

    -- each walk of the query is, with the tail replaced, the front of a walk with the other tail, if a walk goes on
    -- from each state
    pub overlong_front : ((state : State) → (numbers : List ℕ) × (walk : Walk) × (walk_from setting rtype numbers state ≡ Some walk))
        → (numbers : List ℕ) (state : State) (walk : Walk) → Among state
        → walk_from setting rtype numbers state ≡ Some walk → FrontFrom state walk
    overlong_front ends_somewhere [] state walk among e = cc
    overlong_front ends_somewhere (number ∷ numbers) state walk among e =
        by (steps.alike state among)
        (branch_taken state (length numbers == 0) (walk_from setting rtype numbers) (slice_get (next setting rtype state) number) walk e)
        (λ hop to later is goes. overlong_front ends_somewhere numbers to later (steps.on state among number hop to is) goes)
      where
        by : Alike (length own) other state.carried (next setting rtype state) (next setting rtype (changed_state state))
            → GoesOn state (walk_from setting rtype numbers) (slice_get (next setting rtype state) number) walk
            ⊎ EndsBy state (slice_get (next setting rtype state) number) walk
            → ((hop : Hop) (to : State) (later : Walk) → slice_get (next setting rtype state) number ≡ Some (Go hop to)
            → walk_from setting rtype numbers to ≡ Some later → FrontFrom to later)
            → FrontFrom state walk
        by (inr (place, ends)) taken rest =
            subst (FrontFrom state) (overlong_end state place number numbers walk ends e)
            (front_of_any state place (ends_somewhere (changed_state state)))
        by (inl same) (inl goes) rest =
            subst (FrontFrom state) goes.made
            (front_led state goes.to goes.hop number goes.later same goes.is (rest goes.hop goes.to goes.later goes.is goes.goes))
        by (inl same) (inr ends) rest = subst (FrontFrom state) ends.made (front_ended state ends.hop ends.leaf number same ends.is)

    -- ---- a walk of the other name that ends overlong

    -- some walk from the state ends overlong
    abbrev pub MeetsOverlong : State → Type 0
    MeetsOverlong state = (numbers : List ℕ) × (walk : Walk) × (walk_from setting rtype numbers state ≡ Some walk) × (is_overlong walk.leaf ≡ true)

    -- so does one behind the branch with the number, where the walk of the other name does
    abbrev BackBehind : ℕ → List ℕ → State → Type 0
    BackBehind number numbers state =
        (hop : Hop) (to : State) (later : Walk) → slice_get (next setting rtype state) number ≡ Some (Go hop to)
        → walk_from setting rtype numbers (changed_state to) ≡ Some later → is_overlong later.leaf ≡ true → MeetsOverlong to

    -- if a walk of the other name from a state ends overlong, so does some walk of the query from there
    pub overlong_back : (numbers : List ℕ) (state : State) (walk : Walk) → Among state
        → walk_from setting rtype numbers (changed_state state) ≡ Some walk → is_overlong walk.leaf ≡ true → MeetsOverlong state
    overlong_back [] state walk among e long = cc
    overlong_back (number ∷ numbers) state walk among e long =
        by (steps.alike state among)
        (branch_taken (changed_state state) (length numbers == 0) (walk_from setting rtype numbers) (slice_get (next setting rtype (changed_state state)) number) walk e)
        (λ hop to later is goes so. overlong_back numbers to later (steps.on state among number hop to is) goes so)
      where
        onward : (branch : Option Branch) → slice_get (next setting rtype state) number ≡ branch → (hop : Hop) (to : State) (later : Walk)
            → option_map (changed_branch state) branch ≡ Some (Go hop to) → walk_from setting rtype numbers to ≡ Some later → is_overlong later.leaf ≡ true
            → BackBehind number numbers state → MeetsOverlong state
        onward None is hop to later e goes so rest = cc
        onward (Some (End before leaf)) is hop to later e goes so rest = cc
        onward (Some (Go before from)) is hop to later e goes so rest =
            let same : to ≡ changed_state from = cc in
            let found = rest before from later is (ap (walk_from setting rtype numbers) (sym same) ∙ goes) so in (
              number ∷ found.0,
              led_on state before found.1,
              led_walk setting rtype number found.0 state from before found.1 is found.2,
              found.3,
            )

        ended : (branch : Option Branch) → slice_get (next setting rtype state) number ≡ branch → (hop : Option Hop) (leaf : Leaf)
            → option_map (changed_branch state) branch ≡ Some (End hop leaf) → is_overlong leaf ≡ true → MeetsOverlong state
        ended None is hop leaf e so = cc
        ended (Some (Go before from)) is hop leaf e so = cc
        ended (Some (End before end)) is hop leaf e so =
            let same : end ≡ leaf = cc in (
              number ∷ [],
              record { states = state ∷ []; hops = option_to_list before; leaf = end },
              ended_walk setting rtype number state before end is,
              ap is_overlong same ∙ so,
            )

        by : Alike (length own) other state.carried (next setting rtype state) (next setting rtype (changed_state state))
            → GoesOn (changed_state state) (walk_from setting rtype numbers) (slice_get (next setting rtype (changed_state state)) number) walk
            ⊎ EndsBy (changed_state state) (slice_get (next setting rtype (changed_state state)) number) walk
            → BackBehind number numbers state → MeetsOverlong state
        by (inr (place, ends)) taken rest = (
          0 ∷ [],
          record { states = state ∷ []; hops = []; leaf = Overlong place },
          ended_walk setting rtype 0 state None (Overlong place) (ap (λ (branches : List Branch). slice_get branches 0) ends),
          refl,
        )
        by (inl same) (inl goes) rest =
            onward (slice_get (next setting rtype state) number) refl goes.hop goes.to goes.later (sym (same_branch state number same) ∙ goes.is) goes.goes
            (ap (λ (w : Walk). is_overlong w.leaf) goes.made ∙ long) rest
        by (inl same) (inr ends) rest =
            ended (slice_get (next setting rtype state) number) refl ends.hop ends.leaf (sym (same_branch state number same) ∙ ends.is)
            (ap (λ (w : Walk). is_overlong w.leaf) ends.made ∙ long)
