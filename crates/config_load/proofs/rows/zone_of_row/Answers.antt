use Rattle.std.proofs.Common.{Bool, sym, ◌∙◌, subst}
use Rattle.std.specs.Prelude.{if◌then◌else◌}
use Rattle.config_load.specs.Conf.{zone_read, zone_skipped}
use Rattle.config_load.specs.Follows.{ByTold}
use Rattle.config_load.specs.Reading.{Reads}
use Rattle.config_load.specs.Sources.{HasAnswered}
use Rattle.config_load.specs.declared.zone.ReadZone.{ReadZone}
use Rattle.config_load.proofs.rows.zone_of_row.Goals as goal

pub returns-else-is_skipped-clause-reads : goal.returns-else-is_skipped-clause-reads
returns-else-is_skipped-clause-reads g c =
    let unless : Bool → ByTold ReadZone = λ skip told. if skip then Reads (zone_skipped c.args.row.now c.args.left) else zone_read c.args.meta.now c.args.row.now c.args.left told in
    subst (λ (skip : Bool). HasAnswered (g.F.Files.told c.args.files.now) (g.F.Files.told c.read_zone.new.files) (g.F.Files.faults c.args.files.now) (g.F.Files.faults c.read_zone.new.files) (unless skip) c.read_zone.result)
    (sym c.if-is_skipped.false ∙ c.is_skipped.ensures) c.read_zone.ensures.reads
