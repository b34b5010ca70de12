use Rattle.std.proofs.Common.{refl}
use Rattle.call_tests.proofs.OpenNames.{missing_with_tail}
use Rattle.call_tests.proofs.tests.open_tails.is_missing.Goals as goal

pub returns-in-None : goal.returns-in-None
returns-in-None c = λ is_missing.
    missing_with_tail c.args.tree.now.zone c.args.name.now c.in_ok-whole.whole c.in_ok-whole.ensures (c.in-None.ensures.none.0 refl)
