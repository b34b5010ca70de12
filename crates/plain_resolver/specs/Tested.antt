-- The walks of a query whose states pass tests.
use Rattle.std.specs.Prelude.{◌≡◌, ◌↔◌, Bool, true, List, [], ◌∷◌, Contains, if◌then◌else◌}
use Rattle.std.specs.List.{flat_map}
use Rattle.dns_data.specs.Name.{Labels}
use Rattle.dns_data.specs.declared.rr_type.RrType.{RrType}
use Rattle.net_model.specs.Step.{Setting, next}
use Rattle.net_model.specs.Walk.{IsWalk}
use Rattle.net_model.specs.declared.walk.State.{State}
use Rattle.net_model.specs.declared.walk.Walk.{Walk}
use Rattle.net_model.proofs.AllWalks.{walks_by}

-- each state passes the test in its place; there are no fewer tests than states
abbrev pub PassEach : {T : Type 0} → (T → State → Bool) → List T → List State → Type 0
PassEach fits tests [] = Unit {0}
PassEach fits [] (state ∷ states) = ⊥
PassEach fits (test ∷ tests) (state ∷ states) = (fits test state ≡ true) × PassEach fits tests states

-- the walks are those of the query with the type whose states pass the tests
abbrev pub ArePassing : {T : Type 0} → (T → State → Bool) → Setting → Labels → RrType → List T → List Walk → Type 0
ArePassing fits setting query rtype tests walks =
    (walk : Walk) → Contains walks walk ↔ (IsWalk setting query rtype walk × PassEach fits tests walk.states)

-- the walks from a state whose states pass the tests. The contracts of inner calls alone cite it.
abbrev pub passing_from : {T : Type 0} → (T → State → Bool) → Setting → RrType → List T → State → List Walk
passing_from fits setting rtype [] state = []
passing_from fits setting rtype (test ∷ tests) state =
    if fits test state then flat_map (walks_by (passing_from fits setting rtype tests) state) (next setting rtype state) else []
