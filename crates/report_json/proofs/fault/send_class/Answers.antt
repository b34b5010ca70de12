use Rattle.std.proofs.Common.{◌≡◌, ◌∷◌, [], map, codes, refl, None}
use Rattle.std.proofs.lemmas.Result.{on_ok_weaker}
use Rattle.dns_data.specs.RrType.{word_of}
use Rattle.net_model.specs.Class.{class_name}
use Rattle.serde_json.specs.Data.{string}
use Rattle.report_json.specs.Faults.{class_kind}
use Rattle.report_json.specs.Json.{name_value}
use Rattle.report_json.specs.Members.{member_of}
use Rattle.report_json.proofs.Sending.{same_object}
use Rattle.report_json.proofs.fault.send_class.Goals as goal

pub returns : goal.returns
returns g c =
    let members : map member_of c.as_slice.result.now
    ≡ (codes "class", string (class_kind c.args.class.now))
    ∷ (codes "name", name_value (class_name c.args.class.now))
    ∷ (codes "type", string (word_of c.args.rtype)) ∷ []
    = rw (c.as_slice.ensures, c.word.ensures, c.class_kind.ensures, c.name.ensures, c.class_name.ensures, c.word-3.ensures, c.word-2.ensures.word) refl in
    on_ok_weaker c.send_object.result (same_object (map member_of c.as_slice.result.now) (
    (codes "class", string (class_kind c.args.class.now))
    ∷ (codes "name", name_value (class_name c.args.class.now))
    ∷ (codes "type", string (word_of c.args.rtype)) ∷ []) (None) (None)
    (g.S.Serializer.written c.args.out.now) (g.S.Serializer.written c.send_object.new.out) members refl) c.send_object.ensures
