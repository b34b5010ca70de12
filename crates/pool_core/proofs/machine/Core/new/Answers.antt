use Rattle.std.proofs.Common.{sym, ◌∙◌, ap, subst}
use Rattle.pool_core.specs.Steps.{run}
use Rattle.pool_core.proofs.Sentences.{Lawful, lawful_new}
use Rattle.pool_core.proofs.Keeps.{run_none, kept_new}
use Rattle.pool_core.proofs.machine.Core.new.Goals as goal

pub invariant_of-result : goal.invariant_of-result
invariant_of-result c =
    kept_new c.args.workers c.args.limit _ _ _ c.new.ensures.items (rw c.new-spots.ensures.items at c.in_ok-push.ensures.items) c.in_ok-empty_queues.ensures c.requires.some_ticket

pub returns : goal.returns
returns c =
    let ok = ap (run c.args.workers c.args.limit) c.new.ensures.items ∙ run_none c.args.workers c.args.limit in
    let law = subst Lawful (sym ok) (lawful_new c.args.workers c.args.limit c.requires.some_ticket) in
    record {
      ok = ok;
      run = law.run;
      one_spot = law.one_spot;
      waits = law.waits;
      no_twice = law.no_twice;
      in_order = law.in_order;
      balance = law.balance;
      claims = law.claims;
      filings = law.filings;
      after_claim = law.after_claim;
      legal = law.legal;
      replay = law.replay;
    }
