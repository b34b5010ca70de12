use Rattle.report_json.specs.Report.{entry_value}
use Rattle.report_json.proofs.PlainValues.{entry_is_plain}
use Rattle.report_json.proofs.ReadBack.{no_float}
use Rattle.report_json.proofs.report.entry_text.Goals as goal

pub compact_text-requires : goal.compact_text-requires
compact_text-requires c = no_float (entry_value c.args.entry.now) (entry_is_plain c.args.entry.now)
