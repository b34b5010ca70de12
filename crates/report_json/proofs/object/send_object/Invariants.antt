use Rattle.std.proofs.Common.{◌++◌, drop, map}
use Rattle.std.specs.Option.{option_map}
use Rattle.serde.specs.Event.{Log}
use Rattle.serde_json.specs.Events.{SendsMembers}
use Rattle.report_json.specs.Json.{json_members}
use Rattle.report_json.specs.Members.{member_of}
use Rattle.report_json.specs.Walks.{zone_member}
use Rattle.report_json.proofs.object.send_object.Given as goal

-- whatever ends it well from here ends it well from the start
abbrev pub invariant-loop-member : goal.invariant-loop-member
invariant-loop-member g l =
    (end : Log) → SendsMembers (json_members (map member_of (drop l.member-index l.members) ++ zone_member (option_map (λ zone. zone.now) l.fn.zone))) (g.S.Serializer.written l.out) end
    → SendsMembers (json_members (map member_of l.members ++ zone_member (option_map (λ zone. zone.now) l.fn.zone))) (g.S.Serializer.written l.initial.out) end
