use Rattle.config_load.proofs.Steady.{conf_is_steady, opens_both}
use Rattle.config_load.specs.Reading.{file_octets}
use Rattle.groot_run.specs.Outcome.{Rechecks}
use Rattle.groot_run.specs.Programs.{conf_of, limits_of}
use Rattle.groot_run.proofs.TwoReadings.{opens_neither, over_both, over_neither}
use Rattle.groot_run.proofs.recheck.recheck.Goals as goal

pub returns-in-Ok-clause-cause : goal.returns-in-Ok-clause-cause
returns-in-Ok-clause-cause g c =
    over_both c.args.program c.args.meta.now (file_octets (limits_of c.args.program) c.args.report.now) (Rechecks c.args.program (g.F.Files.told c.of_config.new.files) c.args.report.now) c.of_config.result (g.F.Files.told c.configuration.new.files) (g.F.Files.told c.of_config.new.files)
    (g.F.Files.faults c.args.files.now) (g.F.Files.faults c.configuration.new.files) (g.F.Files.faults c.of_config.new.files) c.in-Ok.config c.in-Ok.ensures.ok
    c.of_config.ensures.stays c.configuration.ensures.never_fall c.of_config.ensures.cause

pub returns-in-Ok-clause-opens : goal.returns-in-Ok-clause-opens
returns-in-Ok-clause-opens g c =
    opens_both (conf_of c.args.program c.args.meta.now) (file_octets (limits_of c.args.program) c.args.report.now) (conf_is_steady (limits_of c.args.program) c.args.meta.now) (g.F.Files.told c.args.files.now) (g.F.Files.told c.configuration.new.files)
    (g.F.Files.told c.of_config.new.files) c.in-Ok.config c.of_config.ensures.stays c.in-Ok.ensures.ok c.configuration.ensures.opens c.of_config.ensures.opens

pub returns-in-Err-clause-cause : goal.returns-in-Err-clause-cause
returns-in-Err-clause-cause g c =
    over_neither c.args.program c.args.meta.now (file_octets (limits_of c.args.program) c.args.report.now) (Rechecks c.args.program (g.F.Files.told c.configuration.new.files) c.args.report.now) c.in-Err.ending (g.F.Files.told c.configuration.new.files) (g.F.Files.faults c.args.files.now) (g.F.Files.faults c.configuration.new.files)
    c.in-Err.ensures.err

pub returns-in-Err-clause-opens : goal.returns-in-Err-clause-opens
returns-in-Err-clause-opens g c =
    opens_neither c.args.program c.args.meta.now (file_octets (limits_of c.args.program) c.args.report.now) (g.F.Files.told c.args.files.now) (g.F.Files.told c.configuration.new.files) c.configuration.ensures.opens
