use Rattle.std.proofs.Common.{◌≡◌, ◌∷◌, [], map, codes, refl, sym, subst, Some}
use Rattle.std.proofs.lemmas.Result.{on_ok_weaker}
use Rattle.serde_json.specs.Data.{string}
use Rattle.serde_json.specs.Events.{SendsValue}
use Rattle.report_json.specs.Json.{name_value}
use Rattle.report_json.specs.Members.{member_of}
use Rattle.report_json.specs.Walks.{rewrite_word, hop_value}
use Rattle.report_json.proofs.Sending.{same_object}
use Rattle.report_json.proofs.walk.send_hop.Goals as goal

pub returns-in-Refer : goal.returns-in-Refer
returns-in-Refer g c =
    let members : map member_of c.as_slice.result.now
    ≡ (codes "cut", name_value c.in-Refer.cut.cut)
    ∷ (codes "did", string (codes "refer"))
    ∷ (codes "name", name_value c.args.state.now.name)
    ∷ (codes "ns", name_value c.in-Refer.cut.ns)
    ∷ (codes "server", name_value c.in-Refer.cut.server) ∷ []
    = rw (c.as_slice.ensures, c.name.ensures, c.word.ensures, c.name-in-Refer.ensures, c.name-in-Refer-2.ensures, c.name-in-Refer-3.ensures) refl in
    on_ok_weaker c.send_object.result (λ sent. subst (λ hop. SendsValue (hop_value c.args.state.now hop) (g.S.Serializer.written c.args.out.now) (g.S.Serializer.written c.send_object.new.out)) (sym c.in-Refer.is) (same_object (map member_of c.as_slice.result.now) (
    (codes "cut", name_value c.in-Refer.cut.cut)
    ∷ (codes "did", string (codes "refer"))
    ∷ (codes "name", name_value c.args.state.now.name)
    ∷ (codes "ns", name_value c.in-Refer.cut.ns)
    ∷ (codes "server", name_value c.in-Refer.cut.server) ∷ []) (Some c.in-Refer.cut.zone) (Some c.in-Refer.cut.zone)
    (g.S.Serializer.written c.args.out.now) (g.S.Serializer.written c.send_object.new.out) members refl sent)) c.send_object.ensures

pub returns-in-Rewrite : goal.returns-in-Rewrite
returns-in-Rewrite g c =
    let members : map member_of c.as_slice-in-Rewrite.result.now
    ≡ (codes "did", string (rewrite_word c.in-Rewrite.by_dname))
    ∷ (codes "name", name_value c.args.state.now.name)
    ∷ (codes "owner", name_value c.in-Rewrite.place.owner)
    ∷ (codes "server", name_value c.in-Rewrite.place.server)
    ∷ (codes "to", name_value c.in-Rewrite.to) ∷ []
    = rw (c.as_slice-in-Rewrite.ensures, c.word-in-Rewrite.ensures, c.rewrite_word.ensures, c.name-in-Rewrite.ensures, c.name-in-Rewrite-2.ensures, c.name-in-Rewrite-3.ensures, c.name-in-Rewrite-4.ensures) refl in
    on_ok_weaker c.send_object-in-Rewrite.result (λ sent. subst (λ hop. SendsValue (hop_value c.args.state.now hop) (g.S.Serializer.written c.args.out.now) (g.S.Serializer.written c.send_object-in-Rewrite.new.out)) (sym c.in-Rewrite.is) (same_object (map member_of c.as_slice-in-Rewrite.result.now) (
    (codes "did", string (rewrite_word c.in-Rewrite.by_dname))
    ∷ (codes "name", name_value c.args.state.now.name)
    ∷ (codes "owner", name_value c.in-Rewrite.place.owner)
    ∷ (codes "server", name_value c.in-Rewrite.place.server)
    ∷ (codes "to", name_value c.in-Rewrite.to) ∷ []) (Some c.in-Rewrite.place.zone) (Some c.in-Rewrite.place.zone)
    (g.S.Serializer.written c.args.out.now) (g.S.Serializer.written c.send_object-in-Rewrite.new.out) members refl sent)) c.send_object-in-Rewrite.ensures
