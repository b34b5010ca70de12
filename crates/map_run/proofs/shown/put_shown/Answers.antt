use Rattle.std.proofs.Common.{not, ap, ◌∙◌}
use Rattle.dns_data.specs.Name.{Labels}
use Rattle.map_run.specs.ShownOrigins.{is_shown}
use Rattle.map_run.proofs.ShownOrigins.{shown_more}
use Rattle.map_run.proofs.shown.put_shown.Goals as goal

pub returns-clause-new : goal.returns-clause-new
returns-clause-new c = c.in_ok-insert.ensures.added ∙ ap (λ (name : Labels). not (is_shown c.args.shown.now name)) c.in_ok-of.ensures

pub returns-clause-shown : goal.returns-clause-shown
returns-clause-shown c = shown_more c.args.shown.now c.insert.new.self c.in_ok-of.field-0 c.args.origin.now c.in_ok-of.ensures c.in_ok-insert.ensures.updates
