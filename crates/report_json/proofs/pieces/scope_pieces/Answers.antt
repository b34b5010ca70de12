use Rattle.std.proofs.Common.{◌≡◌, ◌∙◌}
use Rattle.std.specs.List.{flat_map}
use Rattle.std.proofs.lemmas.Result.{IfOk-weaker}
use Rattle.report_json.specs.Pieces.{joined, report_front}
use Rattle.report_json.proofs.PiecesJoined.{joined_scope}
use Rattle.report_json.proofs.pieces.scope_pieces.Goals as goal

pub returns : goal.returns
returns c =
    let numbers = c.args.numbers in
    let back = c.put_scope.new.back in
    IfOk-weaker c.put_around.result (λ pieces. flat_map (λ piece. piece) pieces ≡ joined (report_front numbers.classes) c.args.entries back) _
    (λ pieces are report of. are ∙ joined_scope numbers c.args.entries back c.args.name.now c.args.told.now report of
    (c.in_ok-put_scope.ensures numbers.names numbers.rewrites c.in_ok-back.ensures))
    c.put_around.ensures
