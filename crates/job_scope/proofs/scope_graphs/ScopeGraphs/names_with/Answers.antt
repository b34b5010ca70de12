use Rattle.std.proofs.Common.{Bor, List, [], ◌∷◌, ◌∙◌, map, ap, subst}
use Rattle.label_graph.specs.Pairs.{AreSame}
use Rattle.net_model.specs.declared.config.Config.{Config}
use Rattle.net_model.specs.Reading.{ground_of, joined_ground}
use Rattle.query_verdicts.specs.Queries.{LimitedQueries}
use Rattle.job_scope.specs.Scoped.{widened}
use Rattle.job_scope.proofs.BaseScopes.{widened_by_base}
use Rattle.job_scope.proofs.scope_graphs.ScopeGraphs.names_with.Goals as goal

pub returns-then-has_name : goal.returns-then-has_name
returns-then-has_name c =
    let scope = c.args.scope.now in
    subst (λ (config : Config). AreSame (widened config scope) (ground_of config)) (c.hosts-hosts.ensures ∙ ap (λ (queries : LimitedQueries). queries.config) c.self.view_is)
    (widened_by_base c.hosts-hosts.result.now scope (c.has_name.ensures c.if-has_name.true))

pub returns : goal.returns
returns c =
    let scope = c.args.scope.now in
    record {
      same = subst (λ (one : Config). AreSame c.in_ok-names.names (joined_ground (one ∷ []) (scope ∷ [])))
          (c.hosts-hosts.ensures ∙ ap (λ (queries : LimitedQueries). queries.config) c.self.view_is)
          (subst (λ (all : List (Bor Config)). AreSame c.in_ok-names.names (joined_ground (map (λ (hosts : Bor Config). hosts.now) all) (scope ∷ []))) c.from_ref.ensures.value
          c.in_ok-names.ensures.same);
      order = c.in_ok-names.ensures.order;
    }
