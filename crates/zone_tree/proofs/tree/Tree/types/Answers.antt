use Rattle.std.proofs.Common.{sym, ◌∙◌}
use Rattle.zone_tree.specs.Tree.{name_of}
use Rattle.zone_tree.proofs.NameData.{owned}
use Rattle.zone_tree.proofs.tree.Tree.types.Goals as goal

pub returns : goal.returns
returns c = λ rtype.
    c.types.ensures rtype ∙ c.records.ensures.types rtype ∙ sym (owned (name_of c.args.self.now c.args.node) rtype c.args.self.now.zone.rrs)
