use Rattle.std.proofs.Common.{ap, ◌∙◌}
use Rattle.std.specs.List.{list_any}
use Rattle.dns_data.specs.Name.{name_eq}
use Rattle.address_deps.proofs.ServerSets.{in_set}
use Rattle.address_deps.proofs.server_set.ServerSet.has.Goals as goal

pub returns : goal.returns
returns c = c.contains.ensures ∙ in_set c.args.name.now c.self.inside.names.keys ∙ ap (list_any (name_eq c.args.name.now)) c.self.view_is
