use Rattle.std.proofs.Common.{◌≡◌, ◌+◌, [], ◌++◌, length, drop, map, sym, ap, ◌∙◌, subst, arith}
use Rattle.std.proofs.lemmas.List.{drop_all}
use Rattle.std.proofs.lemmas.Result.{on_ok_weaker}
use Rattle.std.specs.Option.{option_map}
use Rattle.serde_json.specs.Events.{SendsMembers}
use Rattle.report_json.specs.Json.{json_members}
use Rattle.report_json.specs.Members.{member_of}
use Rattle.report_json.specs.Walks.{zone_member}
use Rattle.report_json.proofs.Sending.{object_sent, mapped_and_more}
use Rattle.report_json.proofs.object.send_object.Goals as goal

pub returns : goal.returns
returns g c =
    let members = c.args.members.now in
    let zone = zone_member (option_map (λ zone. zone.now) c.args.zone) in
    let first = g.S.Serializer.written c.begin_map.new.self in
    let mid = g.S.Serializer.written c.loop-member.out in
    let end = g.S.Serializer.written c.send_last.new.out in
    let none : drop c.loop-member.member-index members ≡ [] = drop_all c.loop-member.member-index members (omega arith) in
    on_ok_weaker c.send_last.result (λ ended. object_sent (map member_of members ++ zone) (length members + c.zone_count.result) (g.S.Serializer.written c.args.out.now) first end
    (ap (λ n. length members + n) c.zone_count.ensures.value ∙ mapped_and_more member_of members zone) c.in_ok-begin_map.ensures
    (c.loop-member.invariant end (subst (λ left. SendsMembers (json_members (map member_of left ++ zone)) mid end) (sym none) ended))) c.send_last.ensures
