use Rattle.std.proofs.Common.{take}
use Rattle.std.specs.List.{AllZip}
use Rattle.site_checks.specs.Shown.{AreSiteFindings}
use Rattle.site_checks.proofs.shown.all_findings.Given as goal

-- the checks so far are asked
abbrev pub invariant-loop-site : goal.invariant-loop-site
invariant-loop-site g l =
    AllZip (AreSiteFindings (λ b. (goal.SiteCheck-dyn g (b.vtable, b.value)).name b.value) (λ b. (goal.SiteCheck-dyn g (b.vtable, b.value)).held b.value))
    (take l.site-index l.sites) l.found
