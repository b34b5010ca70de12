-- The outcomes of queries in two configurations, each with its own set of learnt addresses in force.
use Rattle.std.specs.Prelude.{◌↔◌, ℕ, List, Option}
use Rattle.dns_data.specs.Name.{Labels, IsName}
use Rattle.dns_data.specs.declared.rr_type.RrType.{RrType}
use Rattle.net_model.specs.declared.class.Class.{Class}
use Rattle.net_model.specs.declared.config.Config.{Config}
use Rattle.net_model.specs.declared.walk.Leaf.{Leaf}
use Rattle.net_model.specs.Class.{class_name, IsRepresentative}
use Rattle.net_model.specs.Learnt.{IsInForce}
use Rattle.net_model.specs.Step.{following}
use Rattle.net_model.specs.Walk.{IsBoundedWith}
use Rattle.query_classes.specs.Children.{IsInTree}
use Rattle.walk_laws.specs.Outcome.{HasOutcome}
use Rattle.same_answers.specs.Compared.{Compared, joint}

-- the configuration bounds the query: with no type does a walk of it end in a name of more than 255 octets (RFC 6672
-- section 2.2)
pub record IsBoundedIn (config : Config) (rewrites : ℕ) (query : Labels) : Type 0 where
  pub followed : List Labels
  pub in_force : IsInForce config rewrites followed
  pub bounded : (rtype : RrType) → IsBoundedWith (following config rewrites followed) query rtype

-- the query has the outcome with the type: the data, no data or no such name that a zone has for it (RFC 1034 section
-- 4.3.2, RFC 2308 section 2), or a failure, all of which are one outcome
pub record HasOutcomeIn (config : Config) (rewrites : ℕ) (query : Labels) (rtype : RrType) (outcome : Option Leaf) : Type 0 where
  pub followed : List Labels
  pub in_force : IsInForce config rewrites followed
  pub has : HasOutcome (following config rewrites followed) query rtype outcome

-- both configurations bound the query
abbrev pub AreBounded : Compared → Labels → Type 0
AreBounded two query = IsBoundedIn two.first two.rewrites query × IsBoundedIn two.second two.rewrites query

-- the query has the same outcomes with the type in both: each that it has in the one it has in the other. TTLs play no
-- part, nor does the server that tells it.
abbrev pub AnswersAlike : Compared → Labels → RrType → Type 0
AnswersAlike two query rtype =
    (outcome : Option Leaf) → HasOutcomeIn two.first two.rewrites query rtype outcome ↔ HasOutcomeIn two.second two.rewrites query rtype outcome

-- each query that both configurations bound has the same outcomes in them with each type
abbrev pub AllAlike : Compared → Type 0
AllAlike two = (query : Labels) → IsName query → AreBounded two query → (rtype : RrType) → AnswersAlike two query rtype

-- the representative of each class, if both configurations bound it, has the same outcomes in them with each type
abbrev pub ClassesAlike : Compared → Type 0
ClassesAlike two =
    (class : Class) (query : Labels) → IsInTree (joint two) (class_name class) → IsRepresentative (joint two) class query → AreBounded two query
    → (rtype : RrType) → AnswersAlike two query rtype
