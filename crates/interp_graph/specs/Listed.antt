-- States that are listed one after another, each because a walk comes to it. The contracts of inner calls alone cite it.
use Rattle.std.specs.Prelude.{◌≡◌, ℕ, ◌<◌, ◌≤◌, Bool, true, not, List, [], ◌∷◌, ◌++◌, length, Contains}
use Rattle.std.specs.List.{IsDistinct}
use Rattle.dns_data.specs.RrType.{type_eq}
use Rattle.dns_data.specs.declared.rr_type.RrType.{RrType}
use Rattle.dns_data.specs.declared.rr_type.RrType.TheVariants as rr
use Rattle.net_model.specs.Step.{Setting, Branch, Go, next}
use Rattle.net_model.specs.declared.walk.Hop.{Hop}
use Rattle.net_model.specs.declared.walk.State.{State}
use Rattle.zone_lookup.specs.Steps.{branch_of}
use Rattle.interp_graph.specs.StateKey.{state_eq}
use Rattle.interp_graph.specs.declared.step.Draft.{Draft}
use Rattle.interp_graph.specs.declared.step.Draft.TheVariants as draft_as
use Rattle.interp_graph.specs.declared.step.Fork.{Fork}

-- items were put behind the others, each of a kind
pub record Adds {X : Type 0} (Is : X → Type 0) (before after : List X) : Type 0 where
  pub more : List X
  pub behind : after ≡ before ++ more
  pub each : (item : X) → Contains more item → Is item

-- and there are no more together than are allowed
pub record Lists (Is : State → Type 0) (most : ℕ) (before after : List State) : Type 0 where
  pub adds : Adds Is before after
  pub few : length after ≤ most

-- with states of a kind there are more together than are allowed
pub record Passes (Is : State → Type 0) (most : ℕ) (before : List State) : Type 0 where
  pub after : List State
  pub adds : Adds Is before after
  pub once : IsDistinct state_eq after
  pub many : most < length after

-- ---- to which states steps go

-- the relation holds between one of the items and this one
abbrev pub OfOne : {X Y : Type 0} → (X → Y → Type 0) → List X → Y → Type 0
OfOne {X = X} Is items other = (item : X) × Contains items item × Is item other

-- a branch goes on to the state
abbrev pub StepGoes : Branch → State → Type 0
StepGoes branch to = (hop : Hop) × (branch ≡ Go hop to)

-- a step of the fork does
abbrev pub ForkGoes : Fork → State → Type 0
ForkGoes fork to = OfOne (λ step. StepGoes (branch_of step)) fork.steps to

-- a step of a fork that is left does
abbrev pub DraftGoes : Draft → State → Type 0
DraftGoes (draft_as.Done arms) to = ⊥
DraftGoes (draft_as.Left forks) to = OfOne ForkGoes forks to

-- ---- from which states walks come

-- with the type each state of the path leads to the one in front of it, the first of the path leads to this state, and the
-- last is one in which the query begins
abbrev pub ComesOver : Setting → List State → RrType → List State → State → Type 0
ComesOver setting begin rtype [] state = Contains begin state
ComesOver setting begin rtype (before ∷ path) state =
    ComesOver setting begin rtype path before × (hop : Hop) × Contains (next setting rtype before) (Go hop state)

-- with the type some path comes to the state from one in which the query begins
pub record Comes (setting : Setting) (begin : List State) (rtype : RrType) (state : State) : Type 0 where
  pub path : List State
  pub over : ComesOver setting begin rtype path state

-- each type
abbrev pub every : RrType → Bool
every rtype = true

-- each type but CNAME
abbrev pub but_cname : RrType → Bool
but_cname rtype = not (type_eq rtype rr.Cname)

-- the state comes from where the query begins, with each of these types
abbrev pub ComesWith : Setting → List State → (RrType → Bool) → State → Type 0
ComesWith setting begin among state = (rtype : RrType) → among rtype ≡ true → Comes setting begin rtype state

-- if these states do, then this one does
abbrev pub ComesFrom : Setting → (RrType → Bool) → List State → State → Type 0
ComesFrom setting among before state =
    (begin : List State) → ((one : State) → Contains before one → ComesWith setting begin among one) → ComesWith setting begin among state
