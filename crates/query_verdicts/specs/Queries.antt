-- The queries of a configuration within their limits, and what is known of the class of one: for the contracts of the calls
-- on query graphs.
use Rattle.std.specs.Prelude.{◌≡◌, ◌↔◌, ◌++◌, ℕ, true, List, map, Option}
use Rattle.dns_data.specs.Name.{Labels}
use Rattle.dns_data.specs.declared.rr_type.RrType.{RrType}
use Rattle.dns_data.specs.declared.rr_type.RrType.TheVariants as types
use Rattle.graph_form.specs.Branches.{with_type}
use Rattle.graph_form.specs.Graph.{PlainGraph}
use Rattle.graph_form.specs.GraphOf.{IsExactIn, IsGraphOf}
use Rattle.graph_form.specs.Report.{Subject}
use Rattle.graph_form.specs.Verdict.{AreFirstTypes}
use Rattle.graph_form.specs.declared.report.Seen.{Seen}
use Rattle.net_model.specs.declared.config.Config.{Config}
use Rattle.net_model.specs.declared.class.Class.{Class}
use Rattle.net_model.specs.Class.{IsClassOf, IsRepresentative}
use Rattle.net_model.specs.Learnt.{IsLeast, IsGreatest, IsInForce}
use Rattle.net_model.specs.Reading.{Ground, ground_of}
use Rattle.net_model.specs.Retail.{retail}
use Rattle.net_model.specs.Step.{following}
use Rattle.net_model.specs.Tails.{IsUnnamedTail}
use Rattle.net_model.specs.Walk.{AreWalks, IsBoundedWith}
use Rattle.net_model.specs.declared.deps.Deps.{Deps}
use Rattle.net_model.specs.declared.fault.Fault.{Fault}
use Rattle.net_model.specs.declared.walk.Leaf.{Leaf}
use Rattle.net_model.specs.declared.walk.Walk.{Walk}
use Rattle.query_classes.specs.TreeNames.{AreBaseNamesOf}
use Rattle.straight_walks.specs.Ends.{IsOutcomeOf}
use Rattle.straight_walks.specs.Straight.{NoOriginBetween, faults_by_ends}
use Rattle.straight_walks.specs.declared.ends.StraightEnds.{StraightEnds}
use Rattle.walk_laws.specs.Outcome.{HasOutcome}
use Rattle.query_verdicts.specs.Verdict.{IsClassVerdict, PassesStates, SomeServerPasses}
use Rattle.query_verdicts.specs.declared.own_class.OwnClass.{OwnClass}
use Rattle.query_verdicts.specs.declared.own_class.OwnClass.TheVariants.{Represents, Asked}
use Rattle.query_verdicts.specs.declared.verdict.ClassVerdict.TheVariants.{Faults}

-- how many pairs of state and type a query may reach where no other limit is named
abbrev pub most_states : ℕ
most_states = 100000

-- the queries of a configuration: how many rewrites each may use, and how many pairs of state and type it may reach
pub record LimitedQueries : Type 0 where
  pub config : Config
  pub rewrites : ℕ
  pub states : ℕ

-- the queries of a configuration within these limits
abbrev pub limited_to : Config → ℕ → ℕ → LimitedQueries
limited_to config rewrites states = record { config = config; rewrites = rewrites; states = states }

-- the queries of a report's subject, of each of which so many pairs are looked at
abbrev pub queries_of : Subject → ℕ → LimitedQueries
queries_of subject states = limited_to subject.config subject.rewrites states

-- the query reaches more pairs of state and type than it may
abbrev pub Passes : LimitedQueries → Labels → Type 0
Passes queries query = PassesStates queries.config queries.rewrites queries.states query

-- the name of some server reaches more pairs of state and type than a query may
abbrev pub ServerPasses : LimitedQueries → Type 0
ServerPasses queries = SomeServerPasses queries.config queries.rewrites queries.states

-- the lists are the two sets of learnt addresses, and no server's name reaches too many pairs
pub record AreSets (config : Config) (rewrites states : ℕ) (deps : Deps) : Type 0 where
  pub none_passes : SomeServerPasses config rewrites states → ⊥
  pub least : IsLeast config rewrites deps.least
  pub greatest : IsGreatest config rewrites deps.greatest

-- Neither the query nor the other name reaches more pairs of state and type than it may; and whichever servers are
-- followed, the query has the walks of that name, item by item, with last labels of its own wherever they are carried.
pub record WalksLike (queries : LimitedQueries) (like query : Labels) : Type 0 where
  pub few : Passes queries query → ⊥
  pub few_like : Passes queries like → ⊥
  pub count : ℕ
  pub tail : Labels
  pub walks : (followed : List Labels) (rtype : RrType) (walks : List Walk) → AreWalks (following queries.config queries.rewrites followed) like rtype walks
      → AreWalks (following queries.config queries.rewrites followed) query rtype (map (retail count tail) walks)

-- the graph is that of the query's walks while the servers of the set in force are followed, and has no more than these
pub record IsLeastGraph (config : Config) (rewrites : ℕ) (query : Labels) (graph : PlainGraph) : Type 0 where
  pub followed : List Labels
  pub in_force : IsInForce config rewrites followed
  pub is_graph : IsGraphOf (following config rewrites followed) query graph
  pub exact : IsExactIn (following config rewrites followed) query graph

-- the verdict of a query that shows these faults with each type, and with no type one that it doesn't show with the first:
-- each once, with the first type
abbrev pub IsJudgedBy : Config → ℕ → ℕ → (RrType → List Fault) → Labels → Type 0
IsJudgedBy config rewrites states faults query =
    (shown : List Seen) → AreFirstTypes (with_type types.A (faults types.A)) shown → IsClassVerdict config rewrites states query (Faults shown)

-- The walks of the query end so while the servers of the set in force are followed: it has these outcomes and no
-- others, and no walk of it ends in a name of more than 255 octets (RFC 6672 section 2.2). Neither it nor the name of
-- some server reaches too many pairs of state and type, and it shows the faults that the ends tell and no others; so does
-- a name below it with no origin between, where they are its ends too, and the query with an unnamed tail, where its ends
-- are known too.
pub record AreStraightEnds (config : Config) (rewrites states : ℕ) (query : Labels) (ends : StraightEnds) : Type 0 where
  pub few : PassesStates config rewrites states query → ⊥
  pub learnt : SomeServerPasses config rewrites states → ⊥
  pub followed : List Labels
  pub in_force : IsInForce config rewrites followed
  pub bounded : (rtype : RrType) → IsBoundedWith (following config rewrites followed) query rtype
  pub outcomes : (rtype : RrType) (outcome : Option Leaf) → HasOutcome (following config rewrites followed) query rtype outcome ↔ IsOutcomeOf ends rtype outcome
  pub verdict : IsJudgedBy config rewrites states (faults_by_ends query ends) query
  pub verdict_below : ends.below ≡ true → (name : Labels) → NoOriginBetween config query name → IsJudgedBy config rewrites states (faults_by_ends query ends) name
  pub verdict_unnamed : ends.unnamed_below ≡ true → (tail : Labels) → IsUnnamedTail config query tail
      → IsJudgedBy config rewrites states (faults_by_ends query ends) (query ++ tail)

-- the query is of the class under the ground, and its representative
pub record StandsFor (ground : Ground) (class : Class) (query : Labels) : Type 0 where
  pub of_class : IsClassOf ground query class
  pub represents : IsRepresentative ground class query

-- what is known of the query's class under the configuration's own base names holds: the class that the query
-- represents, or the base names themselves
abbrev pub IsOwnClass : Config → OwnClass → Labels → Type 0
IsOwnClass config (Represents class) query = StandsFor (ground_of config) class.now query
IsOwnClass config (Asked names) query = AreBaseNamesOf (ground_of config) names.now
