use Rattle.pool_core.proofs.Keeps.{run_more, kept_claim}
use Rattle.pool_core.proofs.machine.Core.claim.Goals as goal

pub invariant_of-self-2 : goal.invariant_of-self-2
invariant_of-self-2 c =
    kept_claim _ _ _ _ _ _ _ _ c.self.view_is c.self.invariant c.args.worker c.args.ticket c.requires c.in_ok-push.ensures.items

pub returns-clause-ok : goal.returns-clause-ok
returns-clause-ok c = run_more _ _ _ _ _ _ c.self.view_is c.requires c.in_ok-push.ensures.items
