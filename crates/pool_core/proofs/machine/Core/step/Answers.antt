use Rattle.std.proofs.Common.{refl, sym}
use Rattle.pool_core.proofs.Sentences.{lawful_same, lawful_happens}
use Rattle.pool_core.proofs.machine.Core.step.Goals as goal

pub returns-in-Some-clause-one_spot : goal.returns-in-Some-clause-one_spot
returns-in-Some-clause-one_spot c = (lawful_same _ _ c.refusal.ensures.run c.refusal.ensures.some_ticket refl).one_spot

pub returns-in-Some-clause-waits : goal.returns-in-Some-clause-waits
returns-in-Some-clause-waits c = (lawful_same _ _ c.refusal.ensures.run c.refusal.ensures.some_ticket refl).waits

pub returns-in-Some-clause-no_twice : goal.returns-in-Some-clause-no_twice
returns-in-Some-clause-no_twice c = (lawful_same _ _ c.refusal.ensures.run c.refusal.ensures.some_ticket refl).no_twice

pub returns-in-Some-clause-in_order : goal.returns-in-Some-clause-in_order
returns-in-Some-clause-in_order c = (lawful_same _ _ c.refusal.ensures.run c.refusal.ensures.some_ticket refl).in_order

pub returns-in-Some-clause-balance : goal.returns-in-Some-clause-balance
returns-in-Some-clause-balance c = (lawful_same _ _ c.refusal.ensures.run c.refusal.ensures.some_ticket refl).balance

pub returns-in-Some-clause-claims : goal.returns-in-Some-clause-claims
returns-in-Some-clause-claims c = (lawful_same _ _ c.refusal.ensures.run c.refusal.ensures.some_ticket refl).claims

pub returns-in-Some-clause-filings : goal.returns-in-Some-clause-filings
returns-in-Some-clause-filings c = (lawful_same _ _ c.refusal.ensures.run c.refusal.ensures.some_ticket refl).filings

pub returns-in-Some-clause-after_claim : goal.returns-in-Some-clause-after_claim
returns-in-Some-clause-after_claim c = (lawful_same _ _ c.refusal.ensures.run c.refusal.ensures.some_ticket refl).after_claim

pub returns-in-Some-clause-legal : goal.returns-in-Some-clause-legal
returns-in-Some-clause-legal c = (lawful_same _ _ c.refusal.ensures.run c.refusal.ensures.some_ticket refl).legal

pub returns-in-Some-clause-replay : goal.returns-in-Some-clause-replay
returns-in-Some-clause-replay c = (lawful_same _ _ c.refusal.ensures.run c.refusal.ensures.some_ticket refl).replay

pub returns-in_err-accept-in-None-clause-one_spot : goal.returns-in_err-accept-in-None-clause-one_spot
returns-in_err-accept-in-None-clause-one_spot c = (lawful_same _ _ c.refusal.ensures.run c.refusal.ensures.some_ticket c.in_err-accept-in-None.ensures.err).one_spot

pub returns-in_err-accept-in-None-clause-waits : goal.returns-in_err-accept-in-None-clause-waits
returns-in_err-accept-in-None-clause-waits c = (lawful_same _ _ c.refusal.ensures.run c.refusal.ensures.some_ticket c.in_err-accept-in-None.ensures.err).waits

pub returns-in_err-accept-in-None-clause-no_twice : goal.returns-in_err-accept-in-None-clause-no_twice
returns-in_err-accept-in-None-clause-no_twice c = (lawful_same _ _ c.refusal.ensures.run c.refusal.ensures.some_ticket c.in_err-accept-in-None.ensures.err).no_twice

pub returns-in_err-accept-in-None-clause-in_order : goal.returns-in_err-accept-in-None-clause-in_order
returns-in_err-accept-in-None-clause-in_order c = (lawful_same _ _ c.refusal.ensures.run c.refusal.ensures.some_ticket c.in_err-accept-in-None.ensures.err).in_order

pub returns-in_err-accept-in-None-clause-balance : goal.returns-in_err-accept-in-None-clause-balance
returns-in_err-accept-in-None-clause-balance c = (lawful_same _ _ c.refusal.ensures.run c.refusal.ensures.some_ticket c.in_err-accept-in-None.ensures.err).balance

pub returns-in_err-accept-in-None-clause-claims : goal.returns-in_err-accept-in-None-clause-claims
returns-in_err-accept-in-None-clause-claims c = (lawful_same _ _ c.refusal.ensures.run c.refusal.ensures.some_ticket c.in_err-accept-in-None.ensures.err).claims

pub returns-in_err-accept-in-None-clause-filings : goal.returns-in_err-accept-in-None-clause-filings
returns-in_err-accept-in-None-clause-filings c = (lawful_same _ _ c.refusal.ensures.run c.refusal.ensures.some_ticket c.in_err-accept-in-None.ensures.err).filings

pub returns-in_err-accept-in-None-clause-after_claim : goal.returns-in_err-accept-in-None-clause-after_claim
returns-in_err-accept-in-None-clause-after_claim c = (lawful_same _ _ c.refusal.ensures.run c.refusal.ensures.some_ticket c.in_err-accept-in-None.ensures.err).after_claim

pub returns-in_err-accept-in-None-clause-legal : goal.returns-in_err-accept-in-None-clause-legal
returns-in_err-accept-in-None-clause-legal c = (lawful_same _ _ c.refusal.ensures.run c.refusal.ensures.some_ticket c.in_err-accept-in-None.ensures.err).legal

pub returns-in_err-accept-in-None-clause-replay : goal.returns-in_err-accept-in-None-clause-replay
returns-in_err-accept-in-None-clause-replay c = (lawful_same _ _ c.refusal.ensures.run c.refusal.ensures.some_ticket c.in_err-accept-in-None.ensures.err).replay

pub returns-in_ok-accept-in-None-clause-one_spot : goal.returns-in_ok-accept-in-None-clause-one_spot
returns-in_ok-accept-in-None-clause-one_spot c = (lawful_happens _ _ c.args.event c.refusal.ensures.run c.refusal.ensures.some_ticket (sym c.in-None.ensures.said) c.in_ok-accept-in-None.ensures.ok).one_spot

pub returns-in_ok-accept-in-None-clause-waits : goal.returns-in_ok-accept-in-None-clause-waits
returns-in_ok-accept-in-None-clause-waits c = (lawful_happens _ _ c.args.event c.refusal.ensures.run c.refusal.ensures.some_ticket (sym c.in-None.ensures.said) c.in_ok-accept-in-None.ensures.ok).waits

pub returns-in_ok-accept-in-None-clause-no_twice : goal.returns-in_ok-accept-in-None-clause-no_twice
returns-in_ok-accept-in-None-clause-no_twice c = (lawful_happens _ _ c.args.event c.refusal.ensures.run c.refusal.ensures.some_ticket (sym c.in-None.ensures.said) c.in_ok-accept-in-None.ensures.ok).no_twice

pub returns-in_ok-accept-in-None-clause-in_order : goal.returns-in_ok-accept-in-None-clause-in_order
returns-in_ok-accept-in-None-clause-in_order c = (lawful_happens _ _ c.args.event c.refusal.ensures.run c.refusal.ensures.some_ticket (sym c.in-None.ensures.said) c.in_ok-accept-in-None.ensures.ok).in_order

pub returns-in_ok-accept-in-None-clause-balance : goal.returns-in_ok-accept-in-None-clause-balance
returns-in_ok-accept-in-None-clause-balance c = (lawful_happens _ _ c.args.event c.refusal.ensures.run c.refusal.ensures.some_ticket (sym c.in-None.ensures.said) c.in_ok-accept-in-None.ensures.ok).balance

pub returns-in_ok-accept-in-None-clause-claims : goal.returns-in_ok-accept-in-None-clause-claims
returns-in_ok-accept-in-None-clause-claims c = (lawful_happens _ _ c.args.event c.refusal.ensures.run c.refusal.ensures.some_ticket (sym c.in-None.ensures.said) c.in_ok-accept-in-None.ensures.ok).claims

pub returns-in_ok-accept-in-None-clause-filings : goal.returns-in_ok-accept-in-None-clause-filings
returns-in_ok-accept-in-None-clause-filings c = (lawful_happens _ _ c.args.event c.refusal.ensures.run c.refusal.ensures.some_ticket (sym c.in-None.ensures.said) c.in_ok-accept-in-None.ensures.ok).filings

pub returns-in_ok-accept-in-None-clause-after_claim : goal.returns-in_ok-accept-in-None-clause-after_claim
returns-in_ok-accept-in-None-clause-after_claim c = (lawful_happens _ _ c.args.event c.refusal.ensures.run c.refusal.ensures.some_ticket (sym c.in-None.ensures.said) c.in_ok-accept-in-None.ensures.ok).after_claim

pub returns-in_ok-accept-in-None-clause-legal : goal.returns-in_ok-accept-in-None-clause-legal
returns-in_ok-accept-in-None-clause-legal c = (lawful_happens _ _ c.args.event c.refusal.ensures.run c.refusal.ensures.some_ticket (sym c.in-None.ensures.said) c.in_ok-accept-in-None.ensures.ok).legal

pub returns-in_ok-accept-in-None-clause-replay : goal.returns-in_ok-accept-in-None-clause-replay
returns-in_ok-accept-in-None-clause-replay c = (lawful_happens _ _ c.args.event c.refusal.ensures.run c.refusal.ensures.some_ticket (sym c.in-None.ensures.said) c.in_ok-accept-in-None.ensures.ok).replay

pub returns-in_ok-accept-in-None-clause-run : goal.returns-in_ok-accept-in-None-clause-run
returns-in_ok-accept-in-None-clause-run c = (lawful_happens _ _ c.args.event c.refusal.ensures.run c.refusal.ensures.some_ticket (sym c.in-None.ensures.said) c.in_ok-accept-in-None.ensures.ok).run
