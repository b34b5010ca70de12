use Rattle.std.proofs.Common.{◌∙◌, sym}
use Rattle.part_checks.proofs.LeavingNames.{held_passed}
use Rattle.part_checks.proofs.outside.put_owner.Goals as goal

pub returns-then-is_held-clause-passed : goal.returns-then-is_held-clause-passed
returns-then-is_held-clause-passed c = held_passed c.args.sets.now c.args.outside.now c.args.rr.now.owner (sym c.requires.held ∙ c.if-is_held.true)
