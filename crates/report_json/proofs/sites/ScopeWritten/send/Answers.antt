use Rattle.std.proofs.Common.{◌∷◌, codes}
use Rattle.std.proofs.lemmas.Result.{on_ok_weaker}
use Rattle.report_json.specs.Json.{name_value}
use Rattle.report_json.specs.Sites.{sites_members}
use Rattle.report_json.proofs.sites.ScopeWritten.send.Goals as goal

pub returns : goal.returns
returns g c =
    let first = g.S.Serializer.written c.begin_map.new.self in
    let named = g.S.Serializer.written c.key.new.self in
    let told = g.S.Serializer.written c.send_name.new.out in
    let end = g.S.Serializer.written c.send_sites.new.out in
    let scope = c.args.self.now in
    on_ok_weaker c.send_sites.result (λ ended. (
      first,
      c.in_ok-begin_map.ensures,
      c.in_ok-send_report_members.ensures ((codes "scope", name_value scope.name.now) ∷ sites_members scope.told.now) end
          (named, told, c.in_ok-key.ensures, c.in_ok-send_name.ensures, ended),
    )) c.send_sites.ensures
