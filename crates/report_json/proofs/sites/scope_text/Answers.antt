use Rattle.report_json.proofs.PlainValues.{scope_no_float}
use Rattle.report_json.proofs.sites.scope_text.Goals as goal

pub line_of-requires : goal.line_of-requires
line_of-requires c = scope_no_float c.args.report.now c.args.name.now c.args.told.now
