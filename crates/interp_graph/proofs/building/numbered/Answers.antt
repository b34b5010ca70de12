use Rattle.std.proofs.Common.{◌≡◌, ℕ, List, Some, refl, subst, sym}
use Rattle.std.specs.Prelude.{slice_get}
use Rattle.net_model.specs.declared.walk.State.{State}
use Rattle.interp_graph.proofs.Listing.{ListedSoFar, listed_first, listed_more, listed_passed, still_listed}
use Rattle.interp_graph.proofs.Passing.{passed_on}
use Rattle.interp_graph.proofs.building.numbered.Goals as goal

-- a state is the one to which its number leads
abbrev Is : State → State → Type 0
Is state one = state ≡ one

abbrev IsMade : List State → ℕ → State → Type 0
IsMade states at state = slice_get states at ≡ Some state

pub loop-state-init : goal.loop-state-init
loop-state-init c =
    subst (λ (left : List State). ListedSoFar Is IsMade c.args.most c.args.begin left c.new-numbers.result c.args.states.now c.args.states.now)
    (sym c.into_iter-state-iterator.ensures.into_iter_gives.0)
    (subst (λ (numbers : List ℕ). ListedSoFar Is IsMade c.args.most c.args.begin c.args.begin numbers c.args.states.now c.args.states.now) (sym c.new-numbers.ensures)
    (listed_first Is IsMade c.args.most c.args.begin c.args.states.now c.requires))

pub returns-in_err-reach-clause-passed : goal.returns-in_err-reach-clause-passed
returns-in_err-reach-clause-passed c =
    let so = subst (λ (left : List State). ListedSoFar Is IsMade c.args.most c.args.begin left c.loop-state.numbers c.args.states.now c.loop-state.states)
    c.in-Some.ensures.steps c.loop-state.invariant in
    λ is. listed_passed Is IsMade c.args.most c.args.begin c.next.new.self c.loop-state.numbers c.in-Some.state c.args.states.now c.loop-state.states so
    (c.in_err-reach.ensures.passed (passed_on c.from_residual.result c.in_err-reach.field-0.0 _ c.from_residual.ensures.1 is _ refl))

pub loop-state-preserved : goal.loop-state-preserved
loop-state-preserved c =
    let so = subst (λ (left : List State). ListedSoFar Is IsMade c.args.most c.args.begin left c.loop-state.numbers c.args.states.now c.loop-state.states)
    c.in-Some.ensures.steps c.loop-state.invariant in
    subst (λ (numbers : List ℕ). ListedSoFar Is IsMade c.args.most c.args.begin c.next.new.self numbers c.args.states.now c.reach.new.states) (sym c.in_ok-push.ensures.ok)
    (listed_more Is IsMade c.args.most c.args.begin c.next.new.self c.loop-state.numbers c.in-Some.state c.args.states.now c.loop-state.states so
    c.reach.new.states c.in_ok-reach.field-0 (still_listed c.in_ok-reach.ensures.lists.adds) c.in_ok-reach.ensures.lists c.in_ok-reach.ensures.told)
