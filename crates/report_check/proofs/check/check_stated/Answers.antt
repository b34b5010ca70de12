use Rattle.std.proofs.Common.{map, subst}
use Rattle.net_model.specs.Step.{Setting}
use Rattle.serde_json.specs.View.{view}
use Rattle.report_check.specs.Entries.{EntriesComeTo}
use Rattle.report_check.proofs.InOrder.{comes_checked}
use Rattle.report_check.proofs.check.check_stated.Goals as goal

pub returns-in-Ok : goal.returns-in-Ok
returns-in-Ok c = λ octets stated.
    let all = map view c.args.entries.now in
    comes_checked c.args.hosts.now octets c.args.rewrites all stated c.in-Ok.ensures.few c.check_entries.result
    (subst (λ (s : Setting). EntriesComeTo s.config s.rewrites all c.check_entries.result) c.new.ensures c.check_entries.ensures)
