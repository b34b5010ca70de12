use Rattle.std.proofs.Common.{◌≡◌, ◌∷◌, [], map, codes, refl, None}
use Rattle.std.proofs.lemmas.Result.{on_ok_weaker}
use Rattle.serde_json.specs.Data.{string}
use Rattle.report_json.specs.Json.{name_value}
use Rattle.report_json.specs.Members.{member_of}
use Rattle.report_json.proofs.Sending.{same_object}
use Rattle.report_json.proofs.walk.send_stop.Goals as goal

pub returns : goal.returns
returns g c =
    let members : map member_of c.as_slice.result.now
    ≡ (codes "did", string c.args.did.now)
    ∷ (codes "name", name_value c.args.state.now.name)
    ∷ (codes "ns", name_value c.args.ns.now) ∷ []
    = rw (c.as_slice.ensures, c.word.ensures, c.name.ensures, c.name-2.ensures) refl in
    on_ok_weaker c.send_object.result (same_object (map member_of c.as_slice.result.now) (
    (codes "did", string c.args.did.now)
    ∷ (codes "name", name_value c.args.state.now.name)
    ∷ (codes "ns", name_value c.args.ns.now) ∷ []) (None) (None)
    (g.S.Serializer.written c.args.out.now) (g.S.Serializer.written c.send_object.new.out) members refl) c.send_object.ensures
