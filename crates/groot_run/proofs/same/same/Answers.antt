use Rattle.config_load.proofs.Steady.{conf_is_steady, opens_both}
use Rattle.groot_run.specs.Outcome.{ComparesWith}
use Rattle.groot_run.specs.Programs.{conf_of, limits_of}
use Rattle.groot_run.proofs.TwoReadings.{opens_neither, over_both, over_neither}
use Rattle.groot_run.proofs.same.same.Goals as goal

pub returns-in-Ok-clause-cause : goal.returns-in-Ok-clause-cause
returns-in-Ok-clause-cause g c =
    let told = g.F.Files.told c.with_second.new.files in
    over_both c.args.program c.args.first.now (conf_of c.args.program c.args.second.now) (ComparesWith c.args.program told c.args.second.now) c.with_second.result (g.F.Files.told c.configuration.new.files) told
    (g.F.Files.faults c.args.files.now) (g.F.Files.faults c.configuration.new.files) (g.F.Files.faults c.with_second.new.files) c.in-Ok.config c.in-Ok.ensures.ok
    c.with_second.ensures.stays c.configuration.ensures.never_fall c.with_second.ensures.cause

pub returns-in-Ok-clause-opens : goal.returns-in-Ok-clause-opens
returns-in-Ok-clause-opens g c =
    opens_both (conf_of c.args.program c.args.first.now) (conf_of c.args.program c.args.second.now) (conf_is_steady (limits_of c.args.program) c.args.first.now) (g.F.Files.told c.args.files.now) (g.F.Files.told c.configuration.new.files)
    (g.F.Files.told c.with_second.new.files) c.in-Ok.config c.with_second.ensures.stays c.in-Ok.ensures.ok c.configuration.ensures.opens c.with_second.ensures.opens

pub returns-in-Err-clause-cause : goal.returns-in-Err-clause-cause
returns-in-Err-clause-cause g c =
    let told = g.F.Files.told c.configuration.new.files in
    over_neither c.args.program c.args.first.now (conf_of c.args.program c.args.second.now) (ComparesWith c.args.program told c.args.second.now) c.in-Err.ending told (g.F.Files.faults c.args.files.now)
    (g.F.Files.faults c.configuration.new.files) c.in-Err.ensures.err

pub returns-in-Err-clause-opens : goal.returns-in-Err-clause-opens
returns-in-Err-clause-opens g c =
    opens_neither c.args.program c.args.first.now (conf_of c.args.program c.args.second.now) (g.F.Files.told c.args.files.now) (g.F.Files.told c.configuration.new.files) c.configuration.ensures.opens
