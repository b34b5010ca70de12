use Rattle.query_classes.proofs.TreeItems.{reaches_more}
use Rattle.query_verdicts.proofs.CoveringGrounds.{is_closed}
use Rattle.class_judge.proofs.laws.part_is_reached.Goals as goal

pub returns : goal.returns
returns c = λ subject children covering are limit.
    reaches_more subject.ground subject.below children are (is_closed subject.config subject.ground covering.covers) covering.in_tree limit
