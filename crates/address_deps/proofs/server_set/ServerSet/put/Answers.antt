use Rattle.std.proofs.Common.{◌≡◌, ◌||◌, List, subst}
use Rattle.std.specs.List.{list_any}
use Rattle.dns_data.specs.Name.{Labels, name_eq}
use Rattle.address_deps.proofs.ServerSets.{put_in}
use Rattle.address_deps.proofs.server_set.ServerSet.put.Goals as goal

pub returns : goal.returns
returns c = λ other.
    let new = c.insert.new.self.keys in
    subst (λ (old : List Labels). list_any (name_eq other) new ≡ (name_eq c.args.name.now other || list_any (name_eq other) old)) c.self.view_is
    (subst (λ (name : Labels). list_any (name_eq other) new ≡ (name_eq name other || list_any (name_eq other) c.self.inside.names.keys)) c.in_ok-copy.ensures
    (put_in c.in_ok-copy.field-0 other c.self.inside.names.keys new (c.in_ok-insert.ensures.updates.0 other)))
