use Rattle.std.proofs.Common.{◌∙◌, List, subst}
use Rattle.std.proofs.lemmas.Result.{IfOk-weaker}
use Rattle.net_model.specs.declared.walk.State.{State}
use Rattle.interp_graph.specs.KeySet.{TakesKey, keys_in}
use Rattle.interp_graph.proofs.key_set.KeySet.insert.Goals as goal

pub returns-clause-taken : goal.returns-clause-taken
returns-clause-taken c =
    IfOk-weaker c.insert.result _ _
    (λ placed taken. subst (λ (before : List State). TakesKey before (keys_in c.insert.new.self) c.args.key placed.0 placed.1) (c.in_ok-hash_many.ensures.same ∙ c.self.view_is) taken)
    c.insert.ensures.taken
