use Rattle.std.proofs.Common.{◌∙◌, Bor, List, [], map, ap, subst}
use Rattle.std.proofs.lemmas.Result.{IfOk-weaker}
use Rattle.net_model.specs.declared.config.Config.{Config}
use Rattle.net_model.specs.Reading.{joined_ground}
use Rattle.net_model.proofs.JoinedNames.{alone_is_own}
use Rattle.label_graph.specs.Pairs.{AreSame}
use Rattle.base_names.proofs.base.base_graph.Goals as goal

pub returns-clause-same : goal.returns-clause-same
returns-clause-same c =
    let own =
    ap (λ (all : List (Bor Config)). joined_ground (map (λ (hosts : Bor Config). hosts.now) all) []) c.from_ref.ensures.value ∙ alone_is_own c.args.hosts.now in
    IfOk-weaker c.joint_base_graph.result _ _ (λ graph same. subst (AreSame graph) own same) c.joint_base_graph.ensures.same
