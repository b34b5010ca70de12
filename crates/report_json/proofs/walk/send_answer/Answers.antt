use Rattle.std.proofs.Common.{◌≡◌, ◌∷◌, [], map, codes, refl, rules}
use Rattle.std.proofs.lemmas.Result.{on_ok_weaker}
use Rattle.std.specs.Option.{option_map}
use Rattle.serde_json.specs.Data.{string}
use Rattle.report_json.specs.Json.{name_value, texts_value}
use Rattle.report_json.specs.Members.{member_of}
use Rattle.report_json.proofs.Sending.{same_object}
use Rattle.report_json.proofs.walk.send_answer.Goals as goal

pub returns : goal.returns
returns g c =
    let members : map member_of c.as_slice.result.now
    ≡ (codes "did", string (codes "answer"))
    ∷ (codes "name", name_value c.args.state.now.name)
    ∷ (codes "rdata", texts_value c.args.rdata.now)
    ∷ (codes "server", name_value c.args.state.now.server) ∷ []
    = rw (c.as_slice.ensures, c.word.ensures, c.name.ensures, c.texts.ensures, c.name-2.ensures) refl in
    on_ok_weaker c.send_object.result (same_object (map member_of c.as_slice.result.now) (
    (codes "did", string (codes "answer"))
    ∷ (codes "name", name_value c.args.state.now.name)
    ∷ (codes "rdata", texts_value c.args.rdata.now)
    ∷ (codes "server", name_value c.args.state.now.server) ∷ []) (option_map (λ zone. zone.now) c.as_ref.result) (c.args.state.now.zone)
    (g.S.Serializer.written c.args.out.now) (g.S.Serializer.written c.send_object.new.out) members (search rules)) c.send_object.ensures
