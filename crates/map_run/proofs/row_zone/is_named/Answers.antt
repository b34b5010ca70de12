use Rattle.std.proofs.Common.{◌∙◌}
use Rattle.dns_data.specs.Name.{name_eq}
use Rattle.map_run.proofs.ListedNames.{any_behind}
use Rattle.map_run.proofs.row_zone.is_named.Goals as goal

pub returns : goal.returns
returns c = c.some_is.ensures ∙ any_behind (name_eq c.args.name.now) c.args.names.now
