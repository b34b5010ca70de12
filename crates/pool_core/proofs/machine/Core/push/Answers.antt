use Rattle.std.proofs.Common.{ℕ, ◌∙◌, ap, List, [], ◌∷◌, ◌++◌, arith}
use Rattle.std.proofs.lemmas.List.{get_or_read}
use Rattle.pool_core.proofs.Keeps.{run_more, kept_push, push_within}
use Rattle.pool_core.proofs.machine.Core.push.Goals as goal

pub index_mut-requires : goal.index_mut-requires
index_mut-requires c =
    let within = push_within _ _ _ _ _ _ _ c.self.view_is c.self.invariant c.args.worker c.args.ticket c.requires in
    omega (arith, within.0, c.self.inside.queues.ok.0)

pub invariant_of-self-2 : goal.invariant_of-self-2
invariant_of-self-2 c =
    let within = push_within _ _ _ _ _ _ _ c.self.view_is c.self.invariant c.args.worker c.args.ticket c.requires in
    kept_push _ _ _ _ _ _ _ _ c.self.view_is c.self.invariant c.args.worker c.args.ticket c.push_back.new.self c.requires
    (rw c.reserve.ensures.items at c.store.ensures)
    (c.in_ok-push_back.ensures.ok ∙ ap (λ (x : List ℕ). x ++ c.args.ticket ∷ []) (get_or_read _ _ _ within.0 c.index_mut.ensures.value []))

pub returns-clause-ok : goal.returns-clause-ok
returns-clause-ok c = run_more _ _ _ _ _ _ c.self.view_is c.requires (rw c.reserve.ensures.items at c.store.ensures)
