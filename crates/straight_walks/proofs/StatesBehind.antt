-- The states that are passed, with the states behind them to which aliases lead: walks go straight among all of these.
use Rattle.std.proofs.Common.{◌≡◌, ℕ, suc, ◌+◌, ◌*◌, ◌<◌, ◌≤◌, List, [], ◌∷◌, ◌++◌, length, length-append, subst, inl, inr, arith}
use Rattle.std.specs.Prelude.{◌⊎◌, Contains}
use Rattle.std.specs.List.{AllByRecursion}
use Rattle.std.proofs.Math.Nat.{suc-mul}
use Rattle.std.proofs.lemmas.List.Elements.{Contains-append_left, Contains-append_right}
use Rattle.dns_data.specs.declared.rr_type.RrType.{RrType}
use Rattle.dns_data.proofs.Membership.{along, first_or_later, has_first, has_later, none_in_nil}
use Rattle.dns_data.proofs.Names.{all_append, all_so}
use Rattle.net_model.specs.declared.deps.Deps.{Deps}
use Rattle.net_model.specs.declared.fault.Fault.{Fault}
use Rattle.net_model.specs.Step.{Setting, Branch, next}
use Rattle.net_model.specs.declared.walk.State.{State}
use Rattle.straight_walks.specs.Searching.{PassesState}
use Rattle.straight_walks.specs.Straight.{BranchStraight, FailsOrGoes, StepsStraight}
use Rattle.straight_walks.specs.declared.ends.StraightEnds.{StraightEnds}
use Rattle.straight_walks.proofs.AliasWalks.{along_steps}
use Rattle.straight_walks.proofs.GoingOn.{fails_or_goes_still}

module _ (setting : Setting) (deps : Deps) (faulty : List Fault) (ends : StraightEnds) (rtype : RrType) (states : List State) where
  -- walks go straight from the state
  abbrev Pass : State → Type 0
  Pass state = PassesState setting deps faulty ends rtype states state

  -- the states behind it
  abbrev behind_of : (state : State) → Pass state → List State
  behind_of state (inl branches) = []
  behind_of state (inr (behind, leaf, few, told, answers)) = behind

  -- some states, each with those behind it
  abbrev pub with_behind : (some : List State) → AllByRecursion Pass some → List State
  with_behind [] pass = []
  with_behind (state ∷ rest) pass = state ∷ (behind_of state pass.0 ++ with_behind rest pass.1)

  -- behind each there are no more than the rewrites of the ends
  few_behind : (state : State) (pass : Pass state) → length (behind_of state pass) ≤ ends.rewrites
  few_behind state (inl branches) = omega arith
  few_behind state (inr (behind, leaf, few, told, answers)) = few

  -- some states with those behind them are at most so many times the states
  pub few_in_all : (times : ℕ) → ends.rewrites < times → (some : List State) (pass : AllByRecursion Pass some) → length (with_behind some pass) ≤ length some * times
  few_in_all times more [] pass = omega arith
  few_in_all times more (state ∷ rest) pass =
      let few : length (behind_of state pass.0) ≤ ends.rewrites = few_behind state pass.0 in
      let later : length (with_behind rest pass.1) ≤ length rest * times = few_in_all times more rest pass.1 in
      let product : suc (length rest) * times ≡ length rest * times + times = suc-mul (length rest) times in
      omega (arith, length-append (behind_of state pass.0) (with_behind rest pass.1))

  -- each of some states is among them with those behind them
  pub still_there : (some : List State) (pass : AllByRecursion Pass some) (state : State) → Contains some state → Contains (with_behind some pass) state
  still_there [] pass state has = absurd (none_in_nil state has)
  still_there (first ∷ rest) pass state has = by (first_or_later first rest state has) (still_there rest pass.1 state) where
    by : (first ≡ state) ⊎ Contains rest state → (Contains rest state → Contains (with_behind rest pass.1) state) → Contains (with_behind (first ∷ rest) pass) state
    by (inl same) later =
        subst (Contains (with_behind (first ∷ rest) pass)) same (has_first first (behind_of first pass.0 ++ with_behind rest pass.1))
    by (inr among) later =
        has_later first (behind_of first pass.0 ++ with_behind rest pass.1) state (Contains-append_right (behind_of first pass.0) (with_behind rest pass.1) state (later among))

  -- among states that have them walks go straight from each
  module _ (all : List State) (queued : (state : State) → Contains states state → Contains all state) where
    branch_steps : (state : State) (branch : Branch) → FailsOrGoes setting.config deps faulty ends.fails states branch → BranchStraight setting deps faulty ends rtype all state branch
    branch_steps state branch so = inl (fails_or_goes_still setting.config deps faulty faulty (λ fault has. has) ends.fails ends.fails (λ is. is) states all queued branch so)

    one_steps : (state : State) (pass : Pass state) → AllByRecursion (Contains all) (behind_of state pass)
        → AllByRecursion (StepsStraight setting deps faulty ends rtype all) (state ∷ behind_of state pass)
    one_steps state (inl branches) among = (
      all_so (FailsOrGoes setting.config deps faulty ends.fails states) (BranchStraight setting deps faulty ends rtype all state) (next setting rtype state) (branch_steps state) branches,
      tt,
    )
    one_steps state (inr (behind, leaf, few, told, answers)) among = along_steps setting deps faulty ends rtype all leaf told state behind answers among

    -- from each of some states, and from each state behind them, walks go straight among all states that have them
    pub all_step : (some : List State) (pass : AllByRecursion Pass some) → ((state : State) → Contains (with_behind some pass) state → Contains all state)
        → AllByRecursion (StepsStraight setting deps faulty ends rtype all) (with_behind some pass)
    all_step [] pass among = tt
    all_step (state ∷ rest) pass among =
        let behind = behind_of state pass.0 in
        let later = with_behind rest pass.1 in
        all_append (StepsStraight setting deps faulty ends rtype all) (state ∷ behind) later
        (one_steps state pass.0 (along (Contains all) behind (λ one has. among one (has_later state (behind ++ later) one (Contains-append_left behind later one has)))))
        (all_step rest pass.1 (λ one has. among one (has_later state (behind ++ later) one (Contains-append_right behind later one has))))
