use Rattle.std.proofs.Common.{◌∙◌, ap, ◌+◌}
use Rattle.pool_core.proofs.Keeps.{run_more, kept_file, resized}
use Rattle.pool_core.proofs.machine.Core.file.Goals as goal

pub invariant_of-self-2 : goal.invariant_of-self-2
invariant_of-self-2 c =
    kept_file _ _ _ _ _ _ _ _ c.self.view_is c.self.invariant c.args.worker c.args.ticket c.args.children c.resize.new.self.items c.requires
    (rw c.reserve.ensures.items at c.store.ensures)
    (c.in_ok-resize.ensures.items ∙ resized c.self.inside.spots.items _ _ c.args.children _ c.self.inside.spots.ok.0 (ap (λ n. n + c.args.children) c.len.ensures))

pub returns-clause-ok : goal.returns-clause-ok
returns-clause-ok c = run_more _ _ _ _ _ _ c.self.view_is c.requires (rw c.reserve.ensures.items at c.store.ensures)
