use Rattle.name_table.proofs.NameKeys.{key_of_begun}
use Rattle.name_table.proofs.keys.key_of.Goals as goal

pub returns : goal.returns
returns c =
    key_of_begun c.args.above.now c.args.labels.now c.len.result c.key_below.result c.len.ensures.value c.requires c.key_below.ensures
