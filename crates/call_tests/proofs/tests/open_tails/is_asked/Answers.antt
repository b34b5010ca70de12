use Rattle.call_tests.proofs.OpenNames.{asked_with_tail}
use Rattle.call_tests.proofs.tests.open_tails.is_asked.Goals as goal

pub returns : goal.returns
returns c = λ is_asked.
    asked_with_tail c.args.config.now c.args.name.now c.in_ok-whole.whole c.in_ok-whole.ensures (c.in_ok-is_open.ensures is_asked)
