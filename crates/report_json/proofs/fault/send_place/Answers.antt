use Rattle.std.proofs.Common.{◌≡◌, ◌∷◌, [], map, codes, refl, Some}
use Rattle.std.proofs.lemmas.Result.{on_ok_weaker}
use Rattle.report_json.specs.Json.{name_value}
use Rattle.report_json.specs.Members.{member_of}
use Rattle.report_json.proofs.Sending.{same_object}
use Rattle.report_json.proofs.fault.send_place.Goals as goal

pub returns : goal.returns
returns g c =
    let members : map member_of c.as_slice.result.now
    ≡ (codes "owner", name_value c.args.place.now.owner)
    ∷ (codes "server", name_value c.args.place.now.server) ∷ []
    = rw (c.as_slice.ensures, c.name.ensures, c.name-2.ensures) refl in
    on_ok_weaker c.send_object.result (same_object (map member_of c.as_slice.result.now) (
    (codes "owner", name_value c.args.place.now.owner)
    ∷ (codes "server", name_value c.args.place.now.server) ∷ []) (Some c.args.place.now.zone) (Some c.args.place.now.zone)
    (g.S.Serializer.written c.args.out.now) (g.S.Serializer.written c.send_object.new.out) members refl) c.send_object.ensures
