use Rattle.std.proofs.Common.{ap, ◌∙◌}
use Rattle.io_edges.specs.MemoryFiles.{FilesInMemory}
use Rattle.zone_maker.proofs.UnfailingFiles.{drill_none_listed}
use Rattle.zone_maker.proofs.source.DrillFiles.make.Goals as goal

pub invariant_of-result : goal.invariant_of-result
invariant_of-result c = ap (λ (files : FilesInMemory). files.fails) c.in_ok-files.ensures ∙ drill_none_listed c.args.zones
