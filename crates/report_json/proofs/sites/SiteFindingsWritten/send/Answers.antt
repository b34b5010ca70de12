use Rattle.std.proofs.Common.{List, ℕ, map, subst}
use Rattle.std.proofs.lemmas.Result.{on_ok_weaker}
use Rattle.serde_json.specs.Data.{string}
use Rattle.serde_json.specs.Events.{SendsValue}
use Rattle.report_json.specs.Json.{array_of}
use Rattle.report_json.proofs.sites.SiteFindingsWritten.send.Goals as goal

pub returns : goal.returns
returns g c =
    let first = g.S.Serializer.written c.begin_map.new.self in
    let before = g.S.Serializer.written c.key.new.self in
    let behind = g.S.Serializer.written c.send_list.new.out in
    let named = g.S.Serializer.written c.key-2.new.self in
    let told = g.S.Serializer.written c.str.new.self in
    let findings : SendsValue (array_of (map string c.args.self.now.findings)) before behind
    = subst (λ (lines : List (List ℕ)). SendsValue (array_of (map string lines)) before behind) c.items.ensures c.in_ok-send_list.ensures in
    let title : SendsValue (string c.args.self.now.title) named told
    = subst (λ (line : List ℕ). SendsValue (string line) named told) c.as_str.ensures.same c.in_ok-str.ensures in
    on_ok_weaker c.end_map.result (λ ended. (first, c.in_ok-begin_map.ensures, (before, behind, c.in_ok-key.ensures, findings, (named, told, c.in_ok-key-2.ensures, title, ended)))) c.end_map.ensures
