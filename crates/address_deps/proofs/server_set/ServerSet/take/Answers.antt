use Rattle.std.proofs.Common.{◌≡◌, ◌&&◌, not, List, subst}
use Rattle.std.specs.List.{list_any}
use Rattle.dns_data.specs.Name.{Labels, name_eq}
use Rattle.address_deps.proofs.ServerSets.{taken_out}
use Rattle.address_deps.proofs.server_set.ServerSet.take.Goals as goal

pub returns : goal.returns
returns c = λ other.
    let new = c.remove.new.self.keys in
    subst (λ (old : List Labels). list_any (name_eq other) new ≡ (not (name_eq c.args.name.now other) && list_any (name_eq other) old)) c.self.view_is
    (taken_out c.args.name.now other c.self.inside.names.keys new (c.remove.ensures.updates.0 other))
