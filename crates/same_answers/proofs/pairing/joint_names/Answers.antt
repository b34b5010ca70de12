use Rattle.std.proofs.Common.{◌≡◌, ◌∙◌, Bor, List, [], ◌∷◌, ◌++◌, map, ap, ap₂, subst}
use Rattle.std.proofs.lemmas.Result.{IfOk-weaker}
use Rattle.label_graph.specs.Pairs.{AreSame}
use Rattle.net_model.specs.declared.config.Config.{Config}
use Rattle.net_model.specs.Reading.{joined_ground}
use Rattle.same_answers.proofs.pairing.joint_names.Goals as goal

pub returns-clause-same : goal.returns-clause-same
returns-clause-same c =
    let both : map (λ (hosts : Bor Config). hosts.now) c.as_slice.result.now ≡ c.args.first.now.config ∷ c.args.second.now.config ∷ [] =
    ap (map (λ (hosts : Bor Config). hosts.now))
    (c.as_slice.ensures.value ∙ c.in_ok-push-2.ensures.items
    ∙ ap (λ (l : List (Bor Config)). l ++ c.hosts-2.result ∷ [])
    (c.in_ok-push.ensures.items ∙ ap (λ (l : List (Bor Config)). l ++ c.hosts.result ∷ []) c.in_ok-both.ensures.items))
    ∙ ap₂ (λ (one other : Config). one ∷ other ∷ []) c.hosts.ensures c.hosts-2.ensures in
    IfOk-weaker c.joint_base_graph.result _ _ (λ graph same. subst (λ (configs : List Config). AreSame graph (joined_ground configs [])) both same)
    c.joint_base_graph.ensures.same
