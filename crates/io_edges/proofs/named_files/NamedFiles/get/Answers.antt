use Rattle.std.proofs.Common.{sym, ap, ◌∙◌}
use Rattle.std.specs.Option.{option_map}
use Rattle.std.specs.FinMap as map
use Rattle.io_edges.specs.NamedFiles.{stored}
use Rattle.io_edges.proofs.FilesByName.{get-files_by_name}
use Rattle.io_edges.proofs.named_files.NamedFiles.get.Goals as goal

pub returns : goal.returns
returns c =
    ap (option_map stored) c.get.ensures.value
    ∙ sym (get-files_by_name c.self.inside.files c.args.name.now)
    ∙ ap (λ files. map.get files c.args.name.now) c.self.view_is
