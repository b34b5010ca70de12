use Rattle.std.proofs.Common.{◌∙◌, ◌++◌}
use Rattle.groot_run.proofs.Watched.{findings_of_all}
use Rattle.groot_run.proofs.shown.findings.Goals as goal

pub returns : goal.returns
returns g c =
    findings_of_all _ _ (λ b. (goal.SiteCheck-dyn g (b.vtable, b.value)).step b.value) (g.W.Watchers.sites c.args.sites.now.own) c.args.sites.now.brought.items c.as_slice.result.now
    c.as_slice.ensures.value _ _ c.from_vec.result
    (c.from_vec.ensures ∙ c.in_ok-append.ensures.items ∙ (λ i. c.into_vec-found.ensures i ++ c.into_vec.ensures i)) c.in_ok-findings.ensures c.in_ok-all_findings.ensures
