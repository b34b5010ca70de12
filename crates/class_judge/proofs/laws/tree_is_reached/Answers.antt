use Rattle.net_model.specs.Reading.{ground_of}
use Rattle.query_classes.proofs.SameGrounds.{more_in_whole}
use Rattle.query_verdicts.specs.Carried.{whole_config}
use Rattle.class_judge.proofs.WholeConfigs.{is_covered}
use Rattle.class_judge.proofs.laws.tree_is_reached.Goals as goal

pub returns : goal.returns
returns c = λ config children are limit.
    let part = c.part_is_reached.ensures (whole_config config 0) children (is_covered config 0) are limit in
    let whole = more_in_whole (ground_of config) limit in
    (λ more. whole.0 (part.0 more), λ more. part.1 (whole.1 more))
