-- Queries whose walks go straight: by delegations and by rewrites in one server, to ends where all servers answer alike,
-- and the faults of their referrals.
use Rattle.std.specs.Prelude.{◌≡◌, ◌<◌, ◌≤◌, ℕ, Bool, true, List, ◌++◌, ◌⊎◌, length, Option, Some, None, Contains}
use Rattle.std.specs.List.{AllByRecursion, list_any}
use Rattle.dns_data.specs.Name.{Labels, is_prefix, name_eq}
use Rattle.dns_data.specs.declared.rr_type.RrType.{RrType}
use Rattle.net_model.specs.declared.deps.Deps.{Deps}
use Rattle.net_model.specs.Nearest.{held_zone, is_configured}
use Rattle.net_model.specs.Shown.{Shows, with_lists}
use Rattle.net_model.specs.Step.{Setting, Branch, Go, End, next, start}
use Rattle.net_model.specs.declared.config.Config.{Config}
use Rattle.net_model.specs.declared.fault.Fault.{Fault}
use Rattle.net_model.specs.declared.fault.Fault.TheVariants as faults
use Rattle.net_model.specs.declared.place.Cut.{Cut}
use Rattle.net_model.specs.declared.place.Place.{Place}
use Rattle.net_model.specs.declared.walk.Hop.TheVariants.{Refer, Rewrite}
use Rattle.net_model.specs.declared.walk.Leaf.{Leaf}
use Rattle.net_model.specs.declared.walk.Leaf.TheVariants.{Lame, Outside, Unhosted}
use Rattle.net_model.specs.declared.walk.State.{State}
use Rattle.walk_laws.specs.Outcome.{HasOutcome, outcome_of}
use Rattle.straight_walks.specs.Ends.{IsOutcomeOf}
use Rattle.straight_walks.specs.Faulty.{AreAbove, HasReferralFaults, faults_at}
use Rattle.straight_walks.specs.Nowhere.{IsToldEnd, Told, told_with}
use Rattle.straight_walks.specs.declared.ends.StraightEnds.{StraightEnds}

-- the name is at or below the other, and no server has a zone with a longer origin at or above the name
pub record NoOriginBetween (config : Config) (upper name : Labels) : Type 0 where
  pub above : is_prefix upper name ≡ true
  pub none_longer : (server longer : Labels) → is_prefix longer name ≡ true → length upper < length longer → held_zone config server longer ≡ None

-- no server has a zone with an origin below the name
abbrev pub NoOriginBelow : Config → Labels → Type 0
NoOriginBelow config upper =
    (server longer : Labels) → is_prefix upper longer ≡ true → length upper < length longer → held_zone config server longer ≡ None

-- the branch ends where no zone answers: its server holds none for the name; or the name server isn't configured, or has
-- no zone at or below the zone cut, which is among the shown faults. So are the referral's own.
abbrev pub EndsUnanswered : Config → Deps → List Fault → Branch → Type 0
EndsUnanswered config deps shown branch =
    (branch ≡ End None Outside)
    ⊎ ((cut : Cut) × HasReferralFaults config deps shown cut
    × ((branch ≡ End (Some (Refer cut)) (Unhosted cut.ns)) ⊎ (Contains shown (faults.Lame cut) × (branch ≡ End (Some (Refer cut)) (Lame cut.ns)))))

-- the branch ends in one of the outcomes of the ends with the type, and what it shows is among the shown faults
abbrev pub EndsInAnswer : List Fault → StraightEnds → RrType → State → Branch → Type 0
EndsInAnswer shown ends rtype state branch =
    (leaf : Leaf) × IsOutcomeOf ends rtype (outcome_of leaf) × IsToldEnd shown state.last leaf × (branch ≡ End None leaf)

-- the branch goes on by a referral to one of these states, and the referral's faults are among the shown ones
abbrev pub GoesTo : Config → Deps → List Fault → List State → Branch → Type 0
GoesTo config deps shown states branch = (cut : Cut) × (to : State) × HasReferralFaults config deps shown cut × (branch ≡ Go (Refer cut) to) × Contains states to

-- the branch goes on by a rewrite to one of these states
abbrev pub GoesByRewrite : List State → Branch → Type 0
GoesByRewrite states branch =
    (place : Place) × (by_dname : Bool) × (target : Labels) × (to : State) × (branch ≡ Go (Rewrite place by_dname target) to) × Contains states to

-- the branch ends where no zone answers, and walks fail; or it goes on by a referral to one of the states
abbrev pub FailsOrGoes : Config → Deps → List Fault → Bool → List State → Branch → Type 0
FailsOrGoes config deps shown fails states branch = ((fails ≡ true) × EndsUnanswered config deps shown branch) ⊎ GoesTo config deps shown states branch

module _ (setting : Setting) (deps : Deps) (shown : List Fault) (ends : StraightEnds) (rtype : RrType) (states : List State) where
  -- a branch of the state fails as the ends do or goes on by a referral to one of the states; or it ends with the type
  -- in the answer of the ends, or goes on by a rewrite to one of the states
  abbrev pub BranchStraight : State → Branch → Type 0
  BranchStraight state branch =
      FailsOrGoes setting.config deps shown ends.fails states branch ⊎ (EndsInAnswer shown ends rtype state branch ⊎ GoesByRewrite states branch)

  -- each branch of the state does so
  abbrev pub StepsStraight : State → Type 0
  StepsStraight state = AllByRecursion (BranchStraight state) (next setting rtype state)

-- what the ends tell of rewrites
abbrev pub told_of : StraightEnds → Told
told_of ends = record { places = ends.blackholes; aliases = ends.alias_faults }

-- the faults that the ends tell of a query with the type: those of rewrites, and those of the query's referrals
abbrev pub faults_by_ends : Labels → StraightEnds → RrType → List Fault
faults_by_ends query ends rtype = told_with (told_of ends) rtype ++ faults_at query ends.faulty.items

-- the walks of the query with the type go straight: they reach at most so many states, all zones that answer tell the
-- same, and the query has the outcomes of these ends and shows their faults
pub record GoesStraight (setting : Setting) (deps : Deps) (most : ℕ) (query : Labels) (ends : StraightEnds) (rtype : RrType) : Type 0 where
  pub states : List State
  pub few : length states ≤ most
  pub begins : (state : State) → Contains (start setting.config query) state → Contains states state
  pub steps : (state : State) → Contains states state → StepsStraight setting deps (faults_by_ends query ends rtype) ends rtype states state
  pub told : (outcome : Option Leaf) → IsOutcomeOf ends rtype outcome → HasOutcome setting query rtype outcome
  pub shown : (fault : Fault) → Contains (faults_by_ends query ends rtype) fault → Shows (with_lists setting deps.least deps.greatest) query rtype fault
  pub above : AreAbove query ends.faulty.items

-- of the configured servers those of the least set are followed
abbrev pub FollowsLeast : Setting → Deps → Type 0
FollowsLeast setting deps =
    (name : Labels) → is_configured setting.config name ≡ true → list_any (name_eq name) deps.least ≡ true
    → list_any (name_eq name) setting.followed ≡ true
