use Rattle.std.proofs.Common.{refl}
use Rattle.pool_core.proofs.Keeps.{run_more, kept_stop}
use Rattle.pool_core.proofs.machine.Core.halt.Goals as goal

pub invariant_of-self-2 : goal.invariant_of-self-2
invariant_of-self-2 c =
    kept_stop _ _ _ _ _ _ _ _ c.self.view_is c.self.invariant c.args.cause _ c.in_ok-push.ensures.items c.or-first.ensures

pub returns-clause-ok : goal.returns-clause-ok
returns-clause-ok c = run_more _ _ _ _ _ _ c.self.view_is refl c.in_ok-push.ensures.items
