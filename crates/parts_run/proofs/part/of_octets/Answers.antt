use Rattle.std.proofs.Common.{◌∙◌, ap, sym}
use Rattle.part_names.specs.PartNames.{names_in}
use Rattle.parts_run.proofs.PartEnds.{opens_names, over_bad_line, over_names}
use Rattle.parts_run.proofs.part.of_octets.Goals as goal

pub returns-in-Ok-clause-cause : goal.returns-in-Ok-clause-cause
returns-in-Ok-clause-cause g c =
    let job = c.args.job in
    over_names job.limits job.meta.now job.names.now c.in-Ok.names (names_in c.args.octets) (ap names_in (sym c.items.ensures) ∙ c.in-Ok.ensures) (g.F.Files.told c.of_names.new.files)
    (g.F.Files.faults c.args.files.now) (g.F.Files.faults c.of_names.new.files) c.of_names.result c.of_names.ensures.cause

pub returns-in-Ok-clause-opens : goal.returns-in-Ok-clause-opens
returns-in-Ok-clause-opens g c =
    let job = c.args.job in
    opens_names job.limits job.meta.now job.names.now c.in-Ok.names (names_in c.args.octets) (ap names_in (sym c.items.ensures) ∙ c.in-Ok.ensures)
    (g.F.Files.told c.args.files.now) (g.F.Files.told c.of_names.new.files) c.of_names.ensures.opens

pub returns-in-Err-Line-clause-cause : goal.returns-in-Err-Line-clause-cause
returns-in-Err-Line-clause-cause g c =
    let job = c.args.job in
    over_bad_line job.limits job.meta.now job.names.now (names_in c.args.octets) _ c.in-Err-Line.line c.in-Err-Line.field-0-is (rw c.items.ensures at c.in-Err-Line.ensures)
    (g.F.Files.told c.args.files.now) (g.F.Files.faults c.args.files.now) (g.F.Files.faults c.args.files.now) c.bad_line.result c.bad_line.ensures
