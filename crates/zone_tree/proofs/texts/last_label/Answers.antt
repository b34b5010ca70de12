use Rattle.zone_tree.proofs.NameTexts.{more_last}
use Rattle.zone_tree.proofs.texts.last_label.Goals as goal

pub loop-label-preserved : goal.loop-label-preserved
loop-label-preserved c =
    more_last c.loop-label.last c.args.name.now c.loop-label.rest c.next.new.self c.in-Some.label.now c.loop-label.invariant c.in-Some.ensures.first
