-- The nodes of a graph in the making. The contracts of inner calls alone cite it.
use Rattle.std.specs.Prelude.{◌≡◌, ℕ, zero, suc, ◌<◌, ◌≤◌, Bool, true, List, [], ◌∷◌, length, map, Option, Some, None, Contains, slice_get}
use Rattle.std.specs.List.{AllZip}
use Rattle.dns_data.specs.TypeSet.{has_bit}
use Rattle.dns_data.specs.declared.rr_type.RrType.{RrType}
use Rattle.dns_data.specs.declared.rr_type.RrType.TheVariants as rr
use Rattle.net_model.specs.Step as step
use Rattle.net_model.specs.Step.{Setting, next}
use Rattle.net_model.specs.declared.walk.Hop.{Hop}
use Rattle.net_model.specs.declared.walk.State.{State}
use Rattle.graph_form.specs.declared.node.Arm.{Arm}
use Rattle.graph_form.specs.declared.node.Branch.{Branch}
use Rattle.graph_form.specs.declared.node.Branch.TheVariants.{Go, End}
use Rattle.graph_form.specs.declared.node.Node.{Node}
use Rattle.zone_lookup.specs.Alike.{AreSplit}
use Rattle.zone_lookup.specs.Steps.{branch_of}
use Rattle.interp_graph.specs.Listed.{OfOne, ForkGoes, every, but_cname}
use Rattle.interp_graph.specs.Steps.{AreForks, CnameEnds}
use Rattle.interp_graph.specs.declared.step.Draft.{Draft}
use Rattle.interp_graph.specs.declared.step.Draft.TheVariants.{Done, Left}
use Rattle.interp_graph.specs.declared.step.Early.{Early}
use Rattle.interp_graph.specs.declared.step.Early.TheVariants as early_as
use Rattle.interp_graph.specs.declared.step.Fork.{Fork}

-- a branch tells a branch of a state: where that goes on to a state, it leads to this state's number; and else it is the
-- same end
abbrev pub TellsStep : List State → Branch → step.Branch → Type 0
TellsStep states (Go hop to) branch = (state : State) × (branch ≡ step.Go hop state) × (slice_get states to ≡ Some state)
TellsStep states (End hop leaf) branch = branch ≡ step.End hop leaf

-- an arm tells the steps of a fork, for its types
pub record IsArmOf (states : List State) (arm : Arm) (fork : Fork) : Type 0 where
  pub types : arm.types ≡ fork.types
  pub told : AllZip (λ branch one. TellsStep states branch (branch_of one)) arm.branches fork.steps

-- These are the arms of a state's node. No two of them have the same type, and together they have the types with which
-- walks reach the state. For each of its types an arm tells the state's steps, in order. Walks of all types reach the
-- states with the numbers below `first`, and an arm with type CNAME leads to such states alone.
pub record IsNode (setting : Setting) (states : List State) (first : ℕ) (among : RrType → Bool) (arms : List Arm) (state : State) : Type 0 where
  pub split : AreSplit among (map (λ arm. arm.types) arms)
  pub tell : (arm : Arm) → Contains arms arm → (rtype : RrType) → has_bit arm.types rtype ≡ true
      → AllZip (TellsStep states) arm.branches (next setting rtype state)
  pub inside : (arm : Arm) → Contains arms arm → has_bit arm.types rr.Cname ≡ true → (hop : Hop) (to : ℕ) → Contains arm.branches (Go hop to)
      → to < first

-- ---- drafts

-- what the first turn gives for a state is the node's arms for all types; or walks of type CNAME end at the state
abbrev pub IsEarly : Setting → List State → ℕ → Early → State → Type 0
IsEarly setting states first (early_as.Done arms) state = IsNode setting states first every arms state
IsEarly setting states first early_as.Alias state = CnameEnds setting state

-- the forks of a state for some types, by none of which walks of type CNAME go on
pub record AreLeft (setting : Setting) (among : RrType → Bool) (forks : List Fork) (state : State) : Type 0 where
  pub are : AreForks setting state among forks
  pub stays : among rr.Cname ≡ true → CnameEnds setting state

-- the draft of a state's node
abbrev pub IsDraft : Setting → List State → ℕ → (RrType → Bool) → Draft → State → Type 0
IsDraft setting states first among (Done arms) state = IsNode setting states first among arms state
IsDraft setting states first among (Left forks) state = AreLeft setting among forks state

-- an item and a state have this number, and are related
pub record StandsBeside {A : Type 0} (Is : A → State → Type 0) (items : List A) (states : List State) (at : ℕ) : Type 0 where
  pub one : A
  pub other : State
  pub at_one : slice_get items at ≡ Some one
  pub at_other : slice_get states at ≡ Some other
  pub paired : Is one other

-- each item is related to the state with the same number, by what the number asks
abbrev pub AreBeside : {A : Type 0} → (ℕ → A → State → Type 0) → List A → List State → Type 0
AreBeside Is items states = (at : ℕ) → at < length items → StandsBeside (Is at) items states at

-- beside each state stands what the first turn gives for it: walks of all types reach each of the states
pub record AreEarly (setting : Setting) (states : List State) (early : List Early) : Type 0 where
  pub all : length states ≤ length early
  pub beside : AreBeside (λ at. IsEarly setting states (length states)) early states

-- Of states in a row walks of all types reach the first ones, which are so many, and walks of all types but CNAME reach the
-- others. These are the types with which walks reach the state at the head of the row.
abbrev pub typed_now : ℕ → RrType → Bool
typed_now zero = but_cname
typed_now (suc first) = every

-- of the states behind the head of the row, how many walks of all types reach
abbrev pub firsts_behind : ℕ → ℕ
firsts_behind zero = zero
firsts_behind (suc first) = first

-- the types with which walks reach the state with this number in the row, counted from 0
abbrev pub typed : ℕ → ℕ → RrType → Bool
typed first zero = typed_now first
typed first (suc at) = typed (firsts_behind first) at

-- beside each state stand the arms of its node, where so many of the states are reached with all types
pub record AreNodes (setting : Setting) (states : List State) (first : ℕ) (arms : List (List Arm)) : Type 0 where
  pub all : length states ≤ length arms
  pub beside : AreBeside (λ at. IsNode setting states first (typed first at)) arms states

-- the nodes of states and of the arms beside them
abbrev pub nodes_of : List State → List (List Arm) → List Node
nodes_of [] all = []
nodes_of (state ∷ states) [] = []
nodes_of (state ∷ states) (arms ∷ all) = record { state = state; arms = arms } ∷ nodes_of states all

-- ---- single steps

-- walks go on to the state by the forks, if there are some
abbrev pub EarlyGoes : Option (List Fork) → State → Type 0
EarlyGoes None to = ⊥
EarlyGoes (Some forks) to = OfOne ForkGoes forks to

-- these are the arms that the forks tell, or there are neither
abbrev pub IsEarlyOf : List State → Option (List Fork) → Early → Type 0
IsEarlyOf states None early = early ≡ early_as.Alias
IsEarlyOf states (Some forks) early = (arms : List Arm) × (early ≡ early_as.Done arms) × AllZip (IsArmOf states) arms forks

-- the draft is the arms that the first turn gives; or the forks of the state, for all types where it gives none, and for
-- these types where the first turn didn't visit the state
abbrev pub IsDraftBy : Setting → State → List Bool → Option Early → Draft → Type 0
IsDraftBy setting state types (Some (early_as.Done arms)) draft = draft ≡ Done arms
IsDraftBy setting state types (Some early_as.Alias) draft = (forks : List Fork) × (draft ≡ Left forks) × AreForks setting state every forks
IsDraftBy setting state types None draft = (forks : List Fork) × (draft ≡ Left forks) × AreForks setting state (has_bit types) forks

-- the arms are those of the draft, or those that its forks tell
abbrev pub IsFinishedOf : List State → Draft → List Arm → Type 0
IsFinishedOf states (Done done) arms = arms ≡ done
IsFinishedOf states (Left forks) arms = AllZip (IsArmOf states) arms forks
