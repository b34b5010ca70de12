-- Walks by rewrites to an answer.
use Rattle.std.proofs.Common.{◌≡◌, ◌==◌, true, List, [], ◌∷◌, length, Option, None, refl, sym, ap, ◌∙◌, subst, inl, inr}
use Rattle.std.specs.Prelude.{Contains, Some, option_map, slice_get}
use Rattle.std.specs.List.{AllByRecursion}
use Rattle.std.specs.Option.{option_to_list}
use Rattle.dns_data.specs.declared.rr_type.RrType.{RrType}
use Rattle.dns_data.proofs.Membership.{has_first}
use Rattle.graph_form.proofs.Places.{place_of_item}
use Rattle.net_model.specs.declared.deps.Deps.{Deps}
use Rattle.net_model.specs.declared.fault.Fault.{Fault}
use Rattle.net_model.specs.declared.fault.Fault.TheVariants as faults
use Rattle.net_model.specs.declared.place.Place.{Place}
use Rattle.net_model.specs.Step.{Setting, Branch, Go, End, next}
use Rattle.net_model.specs.Walk.{branched, led_on, walk_from}
use Rattle.net_model.specs.declared.walk.Hop.{Hop}
use Rattle.net_model.specs.declared.walk.Hop.TheVariants.{Rewrite}
use Rattle.net_model.specs.declared.walk.Leaf.{Leaf}
use Rattle.net_model.specs.declared.walk.Leaf.TheVariants.{Limit, NxDomain}
use Rattle.net_model.specs.declared.walk.State.{State}
use Rattle.net_model.specs.declared.walk.Walk.{Walk}
use Rattle.walk_laws.specs.Outcome.{outcome_of}
use Rattle.straight_walks.specs.Ends.{IsOutcomeOf}
use Rattle.straight_walks.specs.Nowhere.{EndShows, IsToldEnd}
use Rattle.straight_walks.specs.Searching.{AnswersAlong, EndsInFault, EndsWith}
use Rattle.straight_walks.specs.Straight.{BranchStraight, StepsStraight}
use Rattle.straight_walks.specs.declared.ends.StraightEnds.{StraightEnds}

-- a branch that ends is a walk from its state
pub ends_by_branch : (setting : Setting) (rtype : RrType) (state : State) (hop : Option Hop) (leaf : Leaf) (outcome : Option Leaf)
    → Contains (next setting rtype state) (End hop leaf) → outcome_of leaf ≡ outcome → EndsWith setting rtype state outcome
ends_by_branch setting rtype state hop leaf outcome has told =
    let (at, here) = place_of_item (next setting rtype state) (End hop leaf) has in (
      at ∷ [],
      record { states = state ∷ []; hops = option_to_list hop; leaf = leaf },
      ap (branched state true (walk_from setting rtype [])) here,
      told,
    )

-- rewrites from a state that end so are a walk from the state with this outcome
pub ends_along : (setting : Setting) (shown : List Fault) (rtype : RrType) (leaf : Leaf) (state : State) (behind : List State) → AnswersAlong setting shown rtype leaf state behind
    → EndsWith setting rtype state (outcome_of leaf)
ends_along setting shown rtype leaf state [] (ends, told) =
    ends_by_branch setting rtype state None leaf (outcome_of leaf)
    (subst (λ (all : List Branch). Contains all (End None leaf)) (sym ends) (has_first (End None leaf) [])) refl
ends_along setting shown rtype leaf state (to ∷ behind) (place, by_dname, target, goes, along) =
    let (numbers, walk, is, told) = ends_along setting shown rtype leaf to behind along in (
      0 ∷ numbers,
      led_on state (Rewrite place by_dname target) walk,
      ap (λ (all : List Branch). branched state (length numbers == 0) (walk_from setting rtype numbers) (slice_get all 0)) goes
          ∙ ap (option_map (led_on state (Rewrite place by_dname target))) is,
      told,
    )

-- what is told of an end is among more faults
end_more : (shown more : List Fault) → ((fault : Fault) → Contains shown fault → Contains more fault) → (last : Option Place) (leaf : Leaf) → IsToldEnd shown last leaf → IsToldEnd more last leaf
end_more shown more among last NxDomain told = λ place led. among (faults.Blackhole place) (told place led)
end_more shown more among last (Limit place) told = among (faults.Limit place) told
end_more shown more among last leaf told = told

-- rewrites from a state end so where more faults are shown
pub along_more : (setting : Setting) (shown more : List Fault) → ((fault : Fault) → Contains shown fault → Contains more fault)
    → (rtype : RrType) (leaf : Leaf) (state : State) (behind : List State) → AnswersAlong setting shown rtype leaf state behind → AnswersAlong setting more rtype leaf state behind
along_more setting shown more among rtype leaf state [] (ends, told) = (ends, end_more shown more among state.last leaf told)
along_more setting shown more among rtype leaf state (to ∷ behind) (place, by_dname, target, goes, along) =
    (place, by_dname, target, goes, along_more setting shown more among rtype leaf to behind along)

-- a walk shows by its end what the walk behind its first state shows
shows_on : (state : State) (hop : Hop) (walk : Walk) (fault : Fault) → EndShows walk fault → EndShows (led_on state hop walk) fault
shows_on state hop walk (faults.Blackhole place) shows =
    record {
      rewritten =
          record {
            before = state ∷ shows.rewritten.before;
            last = shows.rewritten.last;
            states = ap (λ (states : List State). state ∷ states) shows.rewritten.states;
            at_place = shows.rewritten.at_place;
          };
      ends = shows.ends;
    }
shows_on state hop walk (faults.Limit place) shows = shows
shows_on state hop walk fault shows = absurd shows

-- a walk that ends in a fault behind one hop is one from the state before
pub ends_on : (setting : Setting) (rtype : RrType) (state to : State) (hop : Hop) → next setting rtype state ≡ Go hop to ∷ [] → (fault : Fault)
    → EndsInFault setting rtype to fault → EndsInFault setting rtype state fault
ends_on setting rtype state to hop goes fault behind =
    record {
      numbers = 0 ∷ behind.numbers;
      walk = led_on state hop behind.walk;
      goes =
          ap (λ (all : List Branch). branched state (length behind.numbers == 0) (walk_from setting rtype behind.numbers) (slice_get all 0)) goes
          ∙ ap (option_map (led_on state hop)) behind.goes;
      shows = shows_on state hop behind.walk fault behind.shows;
    }

-- a walk that ends at its state at a name that doesn't exist shows the blackhole of the rewrite that led to it
pub falls_there : (setting : Setting) (rtype : RrType) (state : State) → next setting rtype state ≡ End None NxDomain ∷ [] → (place : Place) → state.last ≡ Some place
    → EndsInFault setting rtype state (faults.Blackhole place)
falls_there setting rtype state ends place led =
    record {
      numbers = 0 ∷ [];
      walk = record { states = state ∷ []; hops = []; leaf = NxDomain };
      goes = ap (λ (all : List Branch). branched state true (walk_from setting rtype []) (slice_get all 0)) ends;
      shows = record { rewritten = record { before = []; last = state; states = refl; at_place = led }; ends = refl };
    }

-- and one that ends there for want of rewrites shows the limit
pub stops_there : (setting : Setting) (rtype : RrType) (state : State) (place : Place) → next setting rtype state ≡ End None (Limit place) ∷ []
    → EndsInFault setting rtype state (faults.Limit place)
stops_there setting rtype state place ends =
    record {
      numbers = 0 ∷ [];
      walk = record { states = state ∷ []; hops = []; leaf = Limit place };
      goes = ap (λ (all : List Branch). branched state true (walk_from setting rtype []) (slice_get all 0)) ends;
      shows = refl;
    }

-- each state on a way of rewrites to an end goes straight among states that have those behind it, if the outcome is one of
-- the ends'
pub along_steps : (setting : Setting) (deps : Deps) (faulty : List Fault) (ends : StraightEnds) (rtype : RrType) (all : List State) (leaf : Leaf)
    → IsOutcomeOf ends rtype (outcome_of leaf) → (state : State) (behind : List State) → AnswersAlong setting faulty rtype leaf state behind
    → AllByRecursion (Contains all) behind → AllByRecursion (StepsStraight setting deps faulty ends rtype all) (state ∷ behind)
along_steps setting deps faulty ends rtype all leaf told state [] (ends_so, shown) among = (
  subst (AllByRecursion (BranchStraight setting deps faulty ends rtype all state)) (sym ends_so) (inr (inl (leaf, told, shown, refl)), tt),
  tt,
)
along_steps setting deps faulty ends rtype all leaf told state (to ∷ behind) (place, by_dname, target, goes, along) among = (
  subst (AllByRecursion (BranchStraight setting deps faulty ends rtype all state)) (sym goes) (inr (inr (place, by_dname, target, to, refl, among.0)), tt),
  along_steps setting deps faulty ends rtype all leaf told to behind along among.1,
)
