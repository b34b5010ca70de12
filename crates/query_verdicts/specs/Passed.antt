-- Classes whose representatives, and servers whose names, reach more pairs of state and type than are looked at; and the
-- refusal of a report.
use Rattle.std.specs.Prelude.{◌≡◌, ◌≢◌, ◌⊎◌, ℕ, List, ◌∷◌, ◌++◌, Contains}
use Rattle.std.specs.declared.cmp.Ordering.TheVariants.{Less}
use Rattle.dns_data.specs.Name.{Labels, IsName}
use Rattle.query_verdicts.specs.Verdict.{PassesStates, SomeServerPasses}
use Rattle.query_verdicts.specs.declared.report.JudgeFault.{JudgeFault}
use Rattle.query_verdicts.specs.declared.report.JudgeFault.TheVariants.{StatesPassed, NoMemory}
use Rattle.graph_form.specs.Report.{Subject, IsClass}
use Rattle.net_model.specs.declared.class.Class.{Class}
use Rattle.net_model.specs.declared.config.Config.{Config}
use Rattle.net_model.specs.Class.{class_cmp, IsRepresentative}
use Rattle.net_model.specs.Nearest.{server_names}

-- the representative of a class of the subject's tree reaches more pairs than so many
pub record ClassPasses (subject : Subject) (states : ℕ) (class : Class) (query : Labels) : Type 0 where
  pub is_class : IsClass subject class
  pub represents : IsRepresentative subject.ground class query
  pub passes : PassesStates subject.config subject.rewrites states query

-- the representative of some class of the subject's tree reaches more pairs than so many
abbrev pub SomeClassPasses : Subject → ℕ → Type 0
SomeClassPasses subject states = (class : Class) × (query : Labels) × ClassPasses subject states class query

-- the query is the first representative in class order that reaches more pairs than so many
pub record IsFirstPassed (subject : Subject) (states : ℕ) (query : Labels) : Type 0 where
  pub class : Class
  pub passes : ClassPasses subject states class query
  pub first : (other : Class) (name : Labels) → ClassPasses subject states other name → class_cmp other class ≢ Less

-- some server's name, which is one, reaches more pairs than so many
abbrev pub SomeNamePasses : Config → ℕ → ℕ → Type 0
SomeNamePasses config rewrites states =
    (name : Labels) × Contains (server_names config) name × (IsName name × PassesStates config rewrites states name)

-- the name is that of the first configured server whose name reaches more pairs than so many
pub record IsFirstServerPassed (config : Config) (rewrites states : ℕ) (name : Labels) : Type 0 where
  pub before : List Labels
  pub after : List Labels
  pub among : server_names config ≡ before ++ name ∷ after
  pub is_name : IsName name
  pub passes : PassesStates config rewrites states name
  pub first : (other : Labels) → Contains before other → PassesStates config rewrites states other → ⊥

-- neither the representative of a class nor the name of a configured server reaches more pairs than so many
pub record NonePasses (subject : Subject) (states : ℕ) : Type 0 where
  pub no_class : SomeClassPasses subject states → ⊥
  pub no_server : SomeServerPasses subject.config subject.rewrites states → ⊥

-- a report is refused for this name: the first representative that reaches too many pairs, or else the first server's
-- name that does
abbrev pub IsRefusedFor : Subject → ℕ → Labels → Type 0
IsRefusedFor subject states name =
    IsFirstPassed subject states name
    ⊎ ((SomeClassPasses subject states → ⊥) × IsFirstServerPassed subject.config subject.rewrites states name)

-- what a refusal of a report says
abbrev pub IsReportFault : Subject → ℕ → JudgeFault → Type 0
IsReportFault subject states (StatesPassed name) = IsRefusedFor subject states name
IsReportFault subject states NoMemory = Unit {0}
