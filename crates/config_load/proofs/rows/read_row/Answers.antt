use Rattle.std.proofs.Common.{◌≡◌, Option, Ok, refl, subst, sym, ap, ◌∙◌}
use Rattle.std.specs.Prelude.{IfSome}
use Rattle.config_load.specs.Conf.{row_skips, zone_unless}
use Rattle.config_load.specs.Left.{IsReadLeft, zones_in}
use Rattle.config_load.specs.Reading.{Reads}
use Rattle.config_load.specs.declared.limits.Limits.{Limits}
use Rattle.config_load.specs.declared.zone.ReadZone.{ReadZone}
use Rattle.config_load.proofs.LeftRows.{taken_again}
use Rattle.config_load.proofs.ReadAgain.{HasAnswered-again}
use Rattle.config_load.proofs.rows.read_row.Goals as goal

pub returns-in-Some-clause-reads : goal.returns-in-Some-clause-reads
returns-in-Some-clause-reads g c first whole left known are =
    let meta = c.args.meta.now in
    let row = c.args.row.now in
    let told = g.F.Files.told c.args.files.now in
    let skips = row_skips (g.T.ZoneTaker.skips c.args.taker.now) in
    let its : IsReadLeft skips meta told row (g.T.ZoneTaker.left_of c.args.taker.now) whole c.in-Some.read =
    subst (λ (again : Option ReadZone). IfSome again (IsReadLeft skips meta told row (g.T.ZoneTaker.left_of c.args.taker.now) whole)) c.in-Some.is known in
    let reads : zone_unless skips meta row c.args.left told ≡ Reads its.read = ap (λ (limits : Limits). zone_unless skips meta row limits told) (sym left) ∙ its.reads in
    record {
      whole = Ok its.read;
      answered = HasAnswered-again skips meta row c.args.left told (g.F.Files.faults c.args.files.now) its.read reads;
      is = (its.read, refl, its.is, taken_again (g.T.ZoneTaker.took first c.args.taker.now) (zones_in whole.servers) its.read.zone are its.there);
    }

pub returns-in-None-clause-reads : goal.returns-in-None-clause-reads
returns-in-None-clause-reads g c first whole left known are = c.read_new_row.ensures.reads first (zones_in whole.servers) are
