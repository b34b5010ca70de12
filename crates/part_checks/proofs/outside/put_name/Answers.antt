use Rattle.std.proofs.Common.{◌∙◌, sym}
use Rattle.part_checks.proofs.LeavingNames.{held_passed}
use Rattle.part_checks.proofs.outside.put_name.Goals as goal

pub returns-then-has-clause-passed : goal.returns-then-has-clause-passed
returns-then-has-clause-passed c = held_passed c.args.sets.now c.args.outside.now c.args.name.now (sym c.has.ensures ∙ c.if-has.true)
