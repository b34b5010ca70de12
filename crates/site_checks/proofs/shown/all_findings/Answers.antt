use Rattle.site_checks.proofs.Seen.{zip_more}
use Rattle.site_checks.proofs.shown.all_findings.Goals as goal

pub loop-site-preserved : goal.loop-site-preserved
loop-site-preserved g c =
    let tells = c.in_ok-findings_of_check.ensures in
    zip_more _ c.args.sites.now c.loop-site.found c.push.new.self c.loop-site.site-index c.site-item.result c.in_ok-findings_of_check.field-0 c.loop-site-test.true c.site-item.is c.in_ok-push.ensures.ok
    (record { title_is = tells.0; findings_are = tells.1 }) c.loop-site.invariant
