-- What the calls that judge a class give, put together: its faults with the two sets, or none where a server's name passes.
use Rattle.std.proofs.Common.{◌≡◌, ℕ, Bool, true, List, [], ◌∷◌, ◌++◌, Contains, Option, Some, None, refl, sym, subst}
use Rattle.std.specs.Prelude.{◌↔◌}
use Rattle.std.proofs.lemmas.List.Elements.{Contains-append_right}
use Rattle.dns_data.specs.Name.{Labels}
use Rattle.dns_data.proofs.Membership.{has_first}
use Rattle.delegation_checks.specs.Delegations.{is_of_delegations}
use Rattle.graph_form.specs.Graph.{PlainGraph}
use Rattle.graph_form.specs.GraphOf.{IsExactIn, IsGraphOf}
use Rattle.graph_form.specs.Verdict.{AreFirstTypes, AreShownOf}
use Rattle.graph_form.specs.declared.report.Seen.{Seen}
use Rattle.net_model.specs.declared.class.Class.{Class}
use Rattle.net_model.specs.declared.class.Class.TheVariants.{Exact, Below}
use Rattle.net_model.specs.declared.config.Config.{Config}
use Rattle.net_model.specs.declared.deps.Deps.{Deps}
use Rattle.net_model.specs.Class.{IsClassOf, IsRepresentative}
use Rattle.net_model.specs.Learnt.{IsGreatest, IsLeast}
use Rattle.net_model.specs.Nearest.{server_names}
use Rattle.net_model.specs.Reading.{Ground, IsNamed, ground_of}
use Rattle.net_model.specs.Shown.{with_lists, with_sets}
use Rattle.net_model.specs.Step.{following}
use Rattle.walk_laws.proofs.GivenSets.{lists_show}
use Rattle.net_model.proofs.InForce.{one_in_force}
use Rattle.label_graph.specs.LiveSet.{IsClosed}
use Rattle.query_classes.specs.Children.{IsBelow, IsInTree}
use Rattle.query_classes.specs.Members.{RepresentsClass}
use Rattle.query_classes.specs.TreeNames.{AreBaseNamesOf}
use Rattle.query_classes.proofs.SameGrounds.{below_same, class_same, represents_same, same_back}
use Rattle.query_classes.proofs.TreeRows.{not_empty_below}
use Rattle.rewrite_checks.specs.Rewrites.{IsGraphFor, is_of_rewrites}
use Rattle.query_verdicts.specs.Passed.{IsFirstServerPassed, SomeNamePasses}
use Rattle.query_verdicts.specs.Queries.{AreSets, StandsFor}
use Rattle.query_verdicts.specs.Subjects.{RepresentsBelow}
use Rattle.query_verdicts.specs.Verdict.{AreFaultsOf, SomeServerPasses}
use Rattle.query_verdicts.proofs.AllKinds.{all_kinds}

-- ---- the faults of a class

module _ (config : Config) (rewrites states : ℕ) where
  -- if the name of some server reaches too many pairs, no fault is looked for
  pub none_sought : SomeServerPasses config rewrites states → (query : Labels) → AreFaultsOf config rewrites states query []
  none_sought passes query = record { none_sought = λ some. refl; sought = λ clear. absurd (clear passes) }

  -- the first server that passes is one
  among : (name : Labels) → IsFirstServerPassed config rewrites states name → Contains (server_names config) name
  among name is =
      subst (λ (names : List Labels). Contains names name) (sym is.among)
      (Contains-append_right is.before (name ∷ is.after) name (has_first name is.after))

  -- the first server's name that reaches too many pairs is that of some server
  pub some_server : (name : Labels) → IsFirstServerPassed config rewrites states name → SomeServerPasses config rewrites states
  some_server name is = (name, among name is, is.passes)

  -- the first server's name that reaches too many pairs is a name, and that of some server
  pub some_name : (name : Labels) → IsFirstServerPassed config rewrites states name → SomeNamePasses config rewrites states
  some_name name is = (name, among name is, (is.is_name, is.passes))

  -- if no server's name reaches too many pairs, the faults of a query are those that it shows with the least set in
  -- force
  pub all_sought : (deps : Deps) → AreSets config rewrites states deps → (query : Labels) (shown : List Seen)
      → AreShownOf (with_sets (following config rewrites deps.least)) query (λ fault. true) shown → AreFaultsOf config rewrites states query shown
  all_sought deps sets query shown are =
      record {
        none_sought = λ some. absurd (sets.none_passes some);
        sought = λ clear followed in_force.
            subst (λ (set : List Labels). AreShownOf (with_sets (following config rewrites set)) query (λ fault. true) shown)
            (one_in_force config rewrites deps.least followed sets.least in_force) are;
      }

  -- the graph is that of a query that stands for its class
  pub graph_for : (followed : List Labels) (query : Labels) (class : Class) (graph : PlainGraph) → IsGraphOf (following config rewrites followed) query graph
      → IsExactIn (following config rewrites followed) query graph → StandsFor (ground_of config) class query
      → IsGraphFor (following config rewrites followed) query class true graph
  graph_for followed query class graph is exact stands =
      record { is_graph = is; exact = exact; of_class = stands.of_class; represents_it = ((λ e. stands.represents), (λ represents. refl)) }

  -- the graph of a query whose class was asked of the configuration's own base names is the graph for the query and its
  -- class
  pub graph_asked : (followed : List Labels) (query : Labels) (class : Class) (answer : Bool) (graph : PlainGraph) → IsGraphOf (following config rewrites followed) query graph
      → IsExactIn (following config rewrites followed) query graph → (names : Ground) → AreBaseNamesOf (ground_of config) names
      → IsClassOf names query class → ((answer ≡ true) ↔ IsRepresentative names class query)
      → IsGraphFor (following config rewrites followed) query class answer graph
  graph_asked followed query class answer graph is exact names are of tells =
      record {
        is_graph = is;
        exact = exact;
        of_class = class_same names (ground_of config) are.same query class of;
        represents_it = (
          λ e. represents_same names (ground_of config) are.same class query (tells.0 e),
          λ stands. tells.1 (represents_same (ground_of config) names (same_back names (ground_of config) are.same) class query stands),
        );
      }

  -- the faults of rewrites and the faults of delegations together are the faults that the query shows
  pub both_kinds : (followed least greatest : List Labels) → IsLeast config rewrites least → IsGreatest config rewrites greatest → (query : Labels)
      → (of_rewrites of_delegations shown : List Seen)
      → AreShownOf (with_sets (following config rewrites followed)) query is_of_rewrites of_rewrites
      → AreShownOf (with_lists (following config rewrites followed) least greatest) query is_of_delegations of_delegations
      → AreFirstTypes (of_rewrites ++ of_delegations) shown
      → AreShownOf (with_sets (following config rewrites followed)) query (λ fault. true) shown
  both_kinds followed least greatest is_least is_greatest query of_rewrites of_delegations shown one other firsts =
      all_kinds (with_lists (following config rewrites followed) least greatest) (with_sets (following config rewrites followed)) query
      (lists_show config rewrites followed least greatest is_least is_greatest query) of_rewrites of_delegations shown one other firsts

-- ---- names of the class tree

-- what stands for the class below a name in a graph of its names stands for it under the ground
pub represents_below : (ground names : Ground) → AreBaseNamesOf ground names → IsClosed ground → (above : Labels) → IsInTree ground above
    → (found : Option Labels) → IsBelow names above found → RepresentsBelow ground above found
represents_below ground names are closed above in_tree None empty =
    λ query represents. not_empty_below ground closed above in_tree query represents (below_same names ground are.same above None empty)
represents_below ground names are closed above in_tree (Some query) stands = below_same names ground are.same above (Some query) stands

-- a query that represents the class below a name is of that class, and its representative
pub stands_below : (ground : Ground) (above query : Labels) → RepresentsClass ground (Below above) query → StandsFor ground (Below above) query
stands_below ground above query stands = record { of_class = stands.is_member; represents = stands.represents }

-- a named name is of the class of itself alone, and its representative
pub stands_alone : (ground : Ground) (name : Labels) → IsNamed ground name → StandsFor ground (Exact name) name
stands_alone ground name named = record { of_class = (refl, named); represents = refl }
