use Rattle.std.proofs.Common.{take}
use Rattle.std.specs.Prelude.{IfSome}
use Rattle.query_classes.specs.ClassList.{classes_of_rows}
use Rattle.groot_run.specs.HeldView.{IsHeld}
use Rattle.groot_run.specs.ShownClasses.{AreShown, sites_of}
use Rattle.groot_run.proofs.site.show_rows.Given as goal

-- the checks were shown the classes of the rows so far
abbrev pub invariant-loop-row : goal.invariant-loop-row
invariant-loop-row g l = record {
  shown : AreShown l.graphs (classes_of_rows (take l.row-index l.rows))
      (sites_of (λ b. (goal.SiteCheck-dyn g (b.vtable, b.value)).name b.value) (λ b. (goal.SiteCheck-dyn g (b.vtable, b.value)).held b.value)
      (λ b. (goal.SiteCheck-dyn g (b.vtable, b.value)).step b.value) (g.W.Watchers.sites l.fn.sites.own) l.fn.sites.brought.items)
      (sites_of (λ b. (goal.SiteCheck-dyn g (b.vtable, b.value)).name b.value) (λ b. (goal.SiteCheck-dyn g (b.vtable, b.value)).held b.value)
      (λ b. (goal.SiteCheck-dyn g (b.vtable, b.value)).step b.value) (g.W.Watchers.sites l.sites.own) l.sites.brought.items);
  last : IfSome l.last (IsHeld l.graphs);
}
