use Rattle.report_json.proofs.PlainValues.{sites_no_float}
use Rattle.report_json.proofs.sites.sites_text.Goals as goal

pub line_of-requires : goal.line_of-requires
line_of-requires c = sites_no_float c.args.told.now
