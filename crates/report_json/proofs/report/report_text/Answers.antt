use Rattle.report_json.proofs.PlainValues.{report_no_float}
use Rattle.report_json.proofs.report.report_text.Goals as goal

pub line_of-requires : goal.line_of-requires
line_of-requires c = report_no_float c.args.report.now
