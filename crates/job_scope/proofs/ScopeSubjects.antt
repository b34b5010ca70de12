-- What the judge of a scope is made of, by the queries and the base names of its configuration.
use Rattle.std.proofs.Common.{◌≡◌, ◌∙◌, ℕ, Option, None, Some, ap, subst}
use Rattle.std.specs.Prelude.{MatchOption}
use Rattle.dns_data.specs.Name.{Labels, IsName}
use Rattle.graph_form.specs.Report.{Subject}
use Rattle.label_graph.specs.Pairs.{AreSame}
use Rattle.label_graph.proofs.OrderedNames.{same_then}
use Rattle.net_model.specs.Reading.{Ground, ground_of}
use Rattle.query_classes.specs.TreeNames.{AreBaseNamesOf}
use Rattle.query_classes.proofs.SameGrounds.{same_back}
use Rattle.query_verdicts.specs.Queries.{LimitedQueries, limited_to}
use Rattle.query_verdicts.specs.Subjects.{AreOfSubject}
use Rattle.job_scope.specs.Scoped.{scoped, widened}
use Rattle.job_scope.proofs.Scopes.{is_covered}

module _ (of queries : LimitedQueries) (same : queries ≡ of) (base : Ground) (are : AreBaseNamesOf (ground_of queries.config) base) (subject : Subject) (states : ℕ)
    (name first : Labels) (subject_is : scoped of.config of.rewrites name ≡ subject) (states_are : of.states ≡ states) (is_name : IsName name) (first_is : first ≡ name) where
  -- these queries, with a graph of the names of the scope's ground
  of_names : (names : Ground) → AreBaseNamesOf (widened of.config name) names → (own : Option Ground)
      → MatchOption own (AreSame (widened of.config name) (ground_of of.config)) (AreBaseNamesOf (ground_of of.config)) → AreOfSubject subject states queries names own first
  of_names names names_are own own_are =
      subst (λ (one : Subject). AreOfSubject one states queries names own first) subject_is (record {
        covering = is_covered of.config of.rewrites name is_name;
        queries_are = same ∙ ap (limited_to of.config of.rewrites) states_are;
        names_are = names_are;
        own_are = own_are;
        first_is = first_is;
      })

  base_are : AreBaseNamesOf (ground_of of.config) base
  base_are = subst (λ (one : LimitedQueries). AreBaseNamesOf (ground_of one.config) base) same are

  -- with the graph of the base names beside it
  pub with_own : (names : Ground) → AreBaseNamesOf (widened of.config name) names → AreOfSubject subject states queries names (Some base) first
  with_own names names_are = of_names names names_are (Some base) base_are

  -- with the graph of the base names alone, where the scope's ground has no others
  pub without_own : AreSame (widened of.config name) (ground_of of.config) → AreOfSubject subject states queries base None first
  without_own alike =
      of_names base
      (record { same = same_then base (ground_of of.config) (widened of.config name) base_are.same (same_back (widened of.config name) (ground_of of.config) alike); order = base_are.order })
      None alike
