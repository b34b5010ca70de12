use Rattle.serde_json.proofs.FreeTexts.{text_of_value}
use Rattle.report_json.proofs.written.compact_text.Goals as goal

pub returns : goal.returns
returns g c =
    let told = c.in-Ok.ensures.events in
    text_of_value (g.T.Written.value c.args.written.now) told.0 c.in-Ok.text.items told.1 told.2 c.requires
