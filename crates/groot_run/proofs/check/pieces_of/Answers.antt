use Rattle.report_json.specs.Report.{report_text}
use Rattle.groot_run.proofs.KeptPieces.{from_kept}
use Rattle.groot_run.proofs.check.pieces_of.Goals as goal

pub returns : goal.returns
returns c =
    let numbers = c.numbers_of-numbers.ensures in
    from_kept c.report_pieces.result c.args.report c.numbers_of-numbers.result c.in_ok-texts.texts report_text
    numbers.classes numbers.names numbers.rewrites c.in_ok-texts.ensures c.report_pieces.ensures
