use Rattle.std.proofs.Common.{◌++◌, List, ap, sym, ◌∙◌}
use Rattle.net_model.specs.declared.walk.State.{State}
use Rattle.interp_graph.proofs.KeysByNumber.{key_put}
use Rattle.interp_graph.proofs.key_set.hashed.Goals as goal

pub loop-key-preserved : goal.loop-key-preserved
loop-key-preserved c =
    key_put c.loop-key.table.keys c.in-Some.key c.next.new.self c.args.keys.items c.insert.new.self.keys
    (ap (λ (left : List State). c.loop-key.table.keys ++ left) (sym c.in-Some.ensures.steps) ∙ c.loop-key.invariant) c.requires c.in_ok-insert.ensures.keys
