-- Going on from a state along the numbers of branches: the front of a walk.
use Rattle.std.proofs.Common.{◌≡◌, ℕ, suc, Bool, true, false, List, [], ◌∷◌, ◌++◌, length, take, drop, refl, sym, ap, ◌∙◌, subst, inl, inr, ◌==◌}
use Rattle.std.specs.Prelude.{◌⊎◌, slice_get, Option, Some, None, option_map}
use Rattle.std.specs.Option.{option_to_list}
use Rattle.dns_data.specs.declared.rr_type.RrType.{RrType}
use Rattle.net_model.specs.declared.walk.Hop.{Hop}
use Rattle.net_model.specs.declared.walk.Leaf.{Leaf}
use Rattle.net_model.specs.declared.walk.State.{State}
use Rattle.net_model.specs.declared.walk.Walk.{Walk}
use Rattle.net_model.specs.Step.{Setting, Branch, Go, End, next}
use Rattle.net_model.specs.Walk.{led_on, branched, walk_from}

-- the branches with these numbers lead by these hops from the state to the other
abbrev pub Leads : Setting → RrType → State → List ℕ → List Hop → State → Type 0
Leads setting rtype from [] [] to = from ≡ to
Leads setting rtype from (number ∷ numbers) (hop ∷ hops) to =
    (via : State) × (slice_get (next setting rtype from) number ≡ Some (Go hop via)) × Leads setting rtype via numbers hops to
Leads setting rtype from numbers hops to = ⊥

-- ---- one branch

-- the walk goes on by the branch, to a later walk
pub record GoesOn (state : State) (on : State → Option Walk) (branch : Option Branch) (walk : Walk) : Type 0 where
  pub hop : Hop
  pub to : State
  pub later : Walk
  pub is : branch ≡ Some (Go hop to)
  pub goes : on to ≡ Some later
  pub made : led_on state hop later ≡ walk

-- the walk ends by the branch
pub record EndsBy (state : State) (branch : Option Branch) (walk : Walk) : Type 0 where
  pub hop : Option Hop
  pub leaf : Leaf
  pub is : branch ≡ Some (End hop leaf)
  pub made : record { states = state ∷ []; hops = option_to_list hop; leaf = leaf } ≡ walk

-- a walk goes on by its first branch or ends by it
pub branch_taken : (state : State) (is_last : Bool) (on : State → Option Walk) (branch : Option Branch) (walk : Walk)
    → branched state is_last on branch ≡ Some walk → GoesOn state on branch walk ⊎ EndsBy state branch walk
branch_taken state is_last on None walk e = cc
branch_taken state is_last on (Some (Go hop to)) walk e = by (on to) refl e where
  by : (rest : Option Walk) → on to ≡ rest → option_map (led_on state hop) rest ≡ Some walk
      → GoesOn state on (Some (Go hop to)) walk ⊎ EndsBy state (Some (Go hop to)) walk
  by None goes e = cc
  by (Some later) goes e = inl (record { hop = hop; to = to; later = later; is = refl; goes = goes; made = cc })
branch_taken state true on (Some (End hop leaf)) walk e = inr (record { hop = hop; leaf = leaf; is = refl; made = cc })
branch_taken state false on (Some (End hop leaf)) walk e = cc

-- ---- a walk parts at each of its states

-- a walk from a state that comes to another behind the states in front: it leads there, and a walk from there is the rest
pub record PartsAt (setting : Setting) (rtype : RrType) (from : State) (numbers : List ℕ) (walk : Walk) (front : List State) (state : State) (back : List State) : Type 0 where
  pub before : List ℕ
  pub after : List ℕ
  pub numbers_are : numbers ≡ before ++ after
  pub as_many : length before ≡ length front
  pub leads : Leads setting rtype from before (take (length front) walk.hops) state
  pub rest : walk_from setting rtype after state ≡ Some (record { states = state ∷ back; hops = drop (length front) walk.hops; leaf = walk.leaf })

-- the first state of a walk is the one that it is from
pub first_state : (setting : Setting) (rtype : RrType) (numbers : List ℕ) (from : State) (walk : Walk)
    → walk_from setting rtype numbers from ≡ Some walk → (later : List State) × (walk.states ≡ from ∷ later)
first_state setting rtype [] from walk e = cc
first_state setting rtype (number ∷ numbers) from walk e =
    by (branch_taken from (length numbers == 0) (walk_from setting rtype numbers) (slice_get (next setting rtype from) number) walk e)
  where
    by : GoesOn from (walk_from setting rtype numbers) (slice_get (next setting rtype from) number) walk
        ⊎ EndsBy from (slice_get (next setting rtype from) number) walk → (later : List State) × (walk.states ≡ from ∷ later)
    by (inl goes) = (goes.later.states, sym (ap (λ (w : Walk). w.states) goes.made))
    by (inr ends) = ([], sym (ap (λ (w : Walk). w.states) ends.made))

-- a walk parts at its first state
parts_at_first : (setting : Setting) (rtype : RrType) (back : List State) (numbers : List ℕ) (from state : State) (walk : Walk)
    → walk_from setting rtype numbers from ≡ Some walk → walk.states ≡ state ∷ back → PartsAt setting rtype from numbers walk [] state back
parts_at_first setting rtype back numbers from state walk e states =
    let begun = first_state setting rtype numbers from walk e in
    let same : from ≡ state = by begun.0 (sym begun.1 ∙ states) in
    record {
      before = [];
      after = numbers;
      numbers_are = refl;
      as_many = refl;
      leads = same;
      rest = ap (walk_from setting rtype numbers) (sym same) ∙ e
          ∙ ap (λ (all : List State). Some (record { states = all; hops = walk.hops; leaf = walk.leaf })) states;
    }
  where
    by : (later : List State) → from ∷ later ≡ state ∷ back → from ≡ state
    by later e = cc

-- a walk parts at each of its states: the numbers up to there lead to the state, and the others are a walk from it
pub walk_leads : (setting : Setting) (rtype : RrType) (front back : List State) (numbers : List ℕ) (from state : State) (walk : Walk)
    → walk_from setting rtype numbers from ≡ Some walk → walk.states ≡ front ++ state ∷ back → PartsAt setting rtype from numbers walk front state back
walk_leads setting rtype [] back numbers from state walk e states = parts_at_first setting rtype back numbers from state walk e states
walk_leads setting rtype (first ∷ front) back [] from state walk e states = cc
walk_leads setting rtype (first ∷ front) back (number ∷ numbers) from state walk e states =
    by (branch_taken from (length numbers == 0) (walk_from setting rtype numbers) (slice_get (next setting rtype from) number) walk e)
    (λ to later goes among. walk_leads setting rtype front back numbers to state later goes among)
  where
    no_more : (front : List State) → [] ≡ front ++ state ∷ back → ⊥
    no_more [] e = cc
    no_more (other ∷ front) e = cc

    goes_on : (hop : Hop) (to : State) (later : Walk) → slice_get (next setting rtype from) number ≡ Some (Go hop to)
        → PartsAt setting rtype to numbers later front state back
        → PartsAt setting rtype from (number ∷ numbers) (led_on from hop later) (first ∷ front) state back
    goes_on hop to later is parts =
        record {
          before = number ∷ parts.before;
          after = parts.after;
          numbers_are = ap (λ (ns : List ℕ). number ∷ ns) parts.numbers_are;
          as_many = ap suc parts.as_many;
          leads = (to, is, parts.leads);
          rest = parts.rest;
        }

    by : GoesOn from (walk_from setting rtype numbers) (slice_get (next setting rtype from) number) walk
        ⊎ EndsBy from (slice_get (next setting rtype from) number) walk
        → ((to : State) (later : Walk) → walk_from setting rtype numbers to ≡ Some later → later.states ≡ front ++ state ∷ back
        → PartsAt setting rtype to numbers later front state back)
        → PartsAt setting rtype from (number ∷ numbers) walk (first ∷ front) state back
    by (inl goes) parts =
        let all : from ∷ goes.later.states ≡ first ∷ (front ++ state ∷ back) = ap (λ (w : Walk). w.states) goes.made ∙ states in
        let behind : goes.later.states ≡ front ++ state ∷ back = cc in
        subst (λ (w : Walk). PartsAt setting rtype from (number ∷ numbers) w (first ∷ front) state back) goes.made
        (goes_on goes.hop goes.to goes.later goes.is (parts goes.to goes.later goes.goes behind))
    by (inr ends) parts =
        let all : from ∷ [] ≡ first ∷ (front ++ state ∷ back) = ap (λ (w : Walk). w.states) ends.made ∙ states in
        let none : [] ≡ front ++ state ∷ back = cc in
        absurd (no_more front none)

-- ---- and the other way round

-- a walk from the state along the numbers, by the hops and then as the rest
pub record LedWalk (setting : Setting) (rtype : RrType) (from : State) (numbers : List ℕ) (hops : List Hop) (rest : Walk) : Type 0 where
  pub walk : Walk
  pub front : List State
  pub is_walk : walk_from setting rtype numbers from ≡ Some walk
  pub states : walk.states ≡ front ++ rest.states
  pub as_many : length front ≡ length hops
  pub hops_are : walk.hops ≡ hops ++ rest.hops
  pub leaf : walk.leaf ≡ rest.leaf

-- where branches lead from a state to another, a walk from there is the rest of one from the first
pub leads_walk : (setting : Setting) (rtype : RrType) (before after : List ℕ) (hops : List Hop) (from state : State) (rest : Walk)
    → Leads setting rtype from before hops state → walk_from setting rtype after state ≡ Some rest
    → LedWalk setting rtype from (before ++ after) hops rest
leads_walk setting rtype [] after [] from state rest same e =
    record {
      walk = rest;
      front = [];
      is_walk = ap (walk_from setting rtype after) same ∙ e;
      states = refl;
      as_many = refl;
      hops_are = refl;
      leaf = refl;
    }
leads_walk setting rtype [] after (hop ∷ hops) from state rest none e = absurd none
leads_walk setting rtype (number ∷ before) after [] from state rest none e = absurd none
leads_walk setting rtype (number ∷ before) after (hop ∷ hops) from state rest (via, is, leads) e =
    let later = leads_walk setting rtype before after hops via state rest leads e in
    record {
      walk = led_on from hop later.walk;
      front = from ∷ later.front;
      is_walk =
          ap (branched from (length (before ++ after) == 0) (walk_from setting rtype (before ++ after))) is
          ∙ ap (option_map (led_on from hop)) later.is_walk;
      states = ap (λ (all : List State). from ∷ all) later.states;
      as_many = ap suc later.as_many;
      hops_are = ap (λ (all : List Hop). hop ∷ all) later.hops_are;
      leaf = later.leaf;
    }
