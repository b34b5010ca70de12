use Rattle.std.proofs.Common.{◌≡◌, ◌∙◌, ℕ, List, [], ◌∷◌, ap, ap₂, subst}
use Rattle.label_graph.specs.Pairs.{AreSame}
use Rattle.net_model.specs.declared.config.Config.{Config}
use Rattle.net_model.specs.Reading.{joined_ground}
use Rattle.query_verdicts.specs.Queries.{LimitedQueries, limited_to}
use Rattle.same_answers.specs.Compared.{Compared}
use Rattle.same_answers.proofs.pairing.Pairing.prepare.Goals as goal

-- the queries of one of the configurations within the limits of both
limited_alike : (two : Compared) (queries : LimitedQueries) (config of_two : Config) (rewrites states : ℕ) → queries ≡ limited_to config rewrites states
    → config ≡ of_two → rewrites ≡ two.rewrites → states ≡ two.states → queries ≡ limited_to of_two two.rewrites two.states
limited_alike two queries config of_two rewrites states is config_is rewrites_is states_is =
    is
    ∙ ap (λ (c : Config). limited_to c rewrites states) config_is
    ∙ ap (λ (n : ℕ). limited_to of_two n states) rewrites_is
    ∙ ap (λ (n : ℕ). limited_to of_two two.rewrites n) states_is

pub invariant_of-result : goal.invariant_of-result
invariant_of-result g c =
    let two = g.N.PairNaming.compared in
    let first =
    limited_alike two c.in_ok-of_first.of_first c.args.first.now two.first c.args.rewrites c.args.states c.in_ok-of_first.ensures
    c.requires.first c.requires.rewrites c.requires.states in
    let second =
    limited_alike two c.in_ok-of_second.of_second c.args.second.now two.second c.args.rewrites c.args.states c.in_ok-of_second.ensures
    c.requires.second c.requires.rewrites c.requires.states in
    record {
      values = c.requires.values;
      of_first = first;
      of_second = second;
      names_are = record {
        same =
            subst (λ (configs : List Config). AreSame c.in_ok-names.names (joined_ground configs []))
            (ap₂ (λ (one other : Config). one ∷ other ∷ []) (ap (λ (queries : LimitedQueries). queries.config) first)
            (ap (λ (queries : LimitedQueries). queries.config) second))
            c.in_ok-names.ensures.same;
        order = c.in_ok-names.ensures.order;
      };
    }
