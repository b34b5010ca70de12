use Rattle.std.proofs.Common.{◌≡◌, ◌∙◌, ◌++◌, ℕ, List, ap, codes}
use Rattle.std.specs.List.{flat_map}
use Rattle.std.proofs.lemmas.Result.{IfOk-weaker}
use Rattle.report_json.specs.Pieces.{joined, report_front}
use Rattle.report_json.proofs.PiecesJoined.{joined_report}
use Rattle.report_json.proofs.pieces.report_pieces.Goals as goal

pub returns : goal.returns
returns c =
    let numbers = c.args.numbers in
    let back = c.extend_from_slice.new.self in
    IfOk-weaker c.put_around.result (λ pieces. flat_map (λ piece. piece) pieces ≡ joined (report_front numbers.classes) c.args.entries back) _
    (λ pieces are report of. are ∙ joined_report numbers c.args.entries back report of
    (c.in_ok-extend_from_slice.ensures.ok ∙ ap (λ (octets : List ℕ). octets ++ codes "}\n") c.in_ok-back.ensures))
    c.put_around.ensures
