use Rattle.std.proofs.Common.{false, take, subst, sym}
use Rattle.std.proofs.lemmas.List.{take_more}
use Rattle.zone_rules.specs.Buckets.{Marked}
use Rattle.zone_rules.proofs.buckets.Buckets.of.Goals as goal

pub loop-key-preserved : goal.loop-key-preserved
loop-key-preserved c =
    subst (Marked c.put.new.self) (sym (take_more c.args.keys.now c.loop-key.key-index (0, false) c.loop-key-test.true))
    (c.put.ensures (take c.loop-key.key-index c.args.keys.now) c.loop-key.invariant)
