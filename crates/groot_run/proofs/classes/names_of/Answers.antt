use Rattle.std.proofs.Common.{subst}
use Rattle.std.proofs.lemmas.Result.{IfOk-weaker}
use Rattle.label_graph.specs.Pairs.{AreSame}
use Rattle.net_model.specs.declared.config.Config.{Config}
use Rattle.net_model.specs.Reading.{ground_of}
use Rattle.groot_run.proofs.classes.names_of.Goals as goal

pub returns : goal.returns
returns c =
    IfOk-weaker c.base_graph.result _ _ (λ graph same. subst (λ (config : Config). AreSame graph (ground_of config)) c.in_ok-hosts.ensures same)
    c.base_graph.ensures.same
