use Rattle.std.proofs.Common.{arith}
use Rattle.zone_tree.proofs.NameTexts.{plain_first}
use Rattle.zone_tree.proofs.texts.first_of_text.Goals as goal

pub returns-then-is_plain : goal.returns-then-is_plain
returns-then-is_plain c =
    plain_first c.args.place c.args.label.now (omega (arith, c.requires, c.if-place-label.false)) (c.is_plain.ensures c.if-is_plain.true)
