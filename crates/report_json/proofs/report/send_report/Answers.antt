use Rattle.std.proofs.Common.{[]}
use Rattle.std.proofs.lemmas.Result.{on_ok_weaker}
use Rattle.report_json.proofs.report.send_report.Goals as goal

pub returns : goal.returns
returns g c =
    let first = g.S.Serializer.written c.begin_map.new.self in
    let end = g.S.Serializer.written c.end_map.new.self in
    on_ok_weaker c.end_map.result (λ ended. (first, c.in_ok-begin_map.ensures, c.in_ok-send_report_members.ensures [] end ended)) c.end_map.ensures
