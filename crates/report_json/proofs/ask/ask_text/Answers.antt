use Rattle.report_json.proofs.PlainValues.{ask_no_float}
use Rattle.report_json.proofs.ask.ask_text.Goals as goal

pub line_of-requires : goal.line_of-requires
line_of-requires c = ask_no_float c.args.name.now c.args.t c.args.walks.now
