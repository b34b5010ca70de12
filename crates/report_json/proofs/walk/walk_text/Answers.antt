use Rattle.report_json.specs.Walks.{walk_value}
use Rattle.report_json.proofs.PlainValues.{walk_is_plain}
use Rattle.report_json.proofs.ReadBack.{no_float}
use Rattle.report_json.proofs.walk.walk_text.Goals as goal

pub compact_text-requires : goal.compact_text-requires
compact_text-requires c = no_float (walk_value c.args.walk.now) (walk_is_plain c.args.walk.now)
