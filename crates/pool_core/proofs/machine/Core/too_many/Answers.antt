use Rattle.std.proofs.Common.{sym, ◌∙◌, ap, arith}
use Rattle.pool_core.specs.Refusals.{too_many}
use Rattle.pool_core.proofs.Keeps.{few_issued, too_many_is}
use Rattle.pool_core.proofs.machine.Core.too_many.Goals as goal

pub overflow_cast-issued : goal.overflow_cast-issued
overflow_cast-issued c =
    omega (arith, few_issued _ _ _ _ _ _ _ c.self.view_is c.self.invariant, c.self.inside.spots.ok.0)

pub overflow_sub-limit : goal.overflow_sub-limit
overflow_sub-limit c =
    omega (arith, few_issued _ _ _ _ _ _ _ c.self.view_is c.self.invariant, c.self.inside.spots.ok.0)

pub returns : goal.returns
returns c =
    c.then_some.ensures ∙ too_many_is _ _ _ _ _ _ _ c.self.view_is c.self.invariant c.in-File.worker c.in-File.ticket c.in-File.children _ (c.len-issued.ensures ∙ c.self.inside.spots.ok.0) ∙ ap (too_many c.args.self.now) (sym c.in-File.is)
