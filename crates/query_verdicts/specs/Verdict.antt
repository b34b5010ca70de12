-- The verdict of a class and of a name of a class tree.
use Rattle.std.specs.Prelude.{◌≡◌, ℕ, true, List, [], Contains, Option}
use Rattle.dns_data.specs.Name.{Labels}
use Rattle.query_verdicts.specs.declared.verdict.ClassVerdict.{ClassVerdict}
use Rattle.query_verdicts.specs.declared.verdict.ClassVerdict.TheVariants.{Faults, StatesPassed}
use Rattle.query_verdicts.specs.declared.verdict.NameVerdict.{NameVerdict}
use Rattle.query_verdicts.specs.TreeVerdicts.{IsVerdictAt, IsVerdictBelow}
use Rattle.graph_form.specs.Report.{Subject}
use Rattle.graph_form.specs.Verdict.{AreShownOf}
use Rattle.graph_form.specs.declared.report.Seen.{Seen}
use Rattle.net_model.specs.declared.config.Config.{Config}
use Rattle.net_model.specs.Learnt.{IsInForce}
use Rattle.net_model.specs.Nearest.{server_names}
use Rattle.net_model.specs.Shown.{with_sets}
use Rattle.net_model.specs.Step.{following}
use Rattle.net_model.specs.Tree.{IsReached, HasMoreThan}

-- the query reaches more pairs of state and type than so many
abbrev pub PassesStates : Config → ℕ → ℕ → Labels → Type 0
PassesStates config rewrites states query = HasMoreThan (IsReached config rewrites query) states

-- the name of some configured server reaches more pairs of state and type than so many
abbrev pub SomeServerPasses : Config → ℕ → ℕ → Type 0
SomeServerPasses config rewrites states =
    (name : Labels) × Contains (server_names config) name × PassesStates config rewrites states name

-- The faults are those that the query shows, with the set in force. If the name of some server passes the limit,
-- the list is empty: the report is then refused.
pub record AreFaultsOf (config : Config) (rewrites states : ℕ) (query : Labels) (shown : List Seen) : Type 0 where
  pub none_sought : SomeServerPasses config rewrites states → shown ≡ []
  pub sought : (SomeServerPasses config rewrites states → ⊥) → (followed : List Labels) → IsInForce config rewrites followed
      → AreShownOf (with_sets (following config rewrites followed)) query (λ fault. true) shown

-- the verdict of the class that the query represents
abbrev pub IsClassVerdict : Config → ℕ → ℕ → Labels → ClassVerdict → Type 0
IsClassVerdict config rewrites states query (Faults shown) =
    (PassesStates config rewrites states query → ⊥) × AreFaultsOf config rewrites states query shown
IsClassVerdict config rewrites states query StatesPassed = PassesStates config rewrites states query

-- the query shows no fault, and reaches no more pairs than are looked at
abbrev pub IsQuiet : Subject → ℕ → Labels → Type 0
IsQuiet subject states query = IsClassVerdict subject.config subject.rewrites states query (Faults [])

-- the verdict of the class below a name of the subject's class tree, if it has a representative
abbrev pub IsBelowVerdict : Subject → ℕ → Labels → Option ClassVerdict → Type 0
IsBelowVerdict subject states above below = IsVerdictBelow subject.ground (IsClassVerdict subject.config subject.rewrites states) above below

-- the verdict of a name of the subject's class tree
abbrev pub IsNameVerdict : Subject → ℕ → Labels → NameVerdict ClassVerdict → Type 0
IsNameVerdict subject states name verdict = IsVerdictAt subject.ground (IsClassVerdict subject.config subject.rewrites states) name verdict
