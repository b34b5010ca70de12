use Rattle.std.proofs.Common.{◌∷◌, []}
use Rattle.site_checks.specs.Shown.{HasSeen}
use Rattle.groot_run.proofs.Places.{IsDoneTo}
use Rattle.groot_run.proofs.shown.show_brought.Given as goal

-- the checks so far have seen the view, and the others are as they were
abbrev pub invariant-loop-i : goal.invariant-loop-i
invariant-loop-i g l =
    IsDoneTo
    (HasSeen (λ b. (goal.SiteCheck-dyn g (b.vtable, b.value)).name b.value) (λ b. (goal.SiteCheck-dyn g (b.vtable, b.value)).held b.value)
    (λ b. (goal.SiteCheck-dyn g (b.vtable, b.value)).step b.value) (l.view ∷ []))
    l.i l.fn.sites.items l.sites.items
