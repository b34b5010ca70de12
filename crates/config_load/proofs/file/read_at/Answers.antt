use Rattle.std.proofs.Common.{ℕ}
use Rattle.config_load.proofs.Sources.{FailedAt-read}
use Rattle.config_load.proofs.file.read_at.Goals as goal

pub returns-in-Ok-clause-only : goal.returns-in-Ok-clause-only
returns-in-Ok-clause-only g c = record { stays = c.read.ensures.stays; others = c.read.ensures.others; never_fall = c.read.ensures.never_fall }

pub returns-in-Err-clause-only : goal.returns-in-Err-clause-only
returns-in-Err-clause-only g c = record { stays = c.read.ensures.stays; others = c.read.ensures.others; never_fall = c.read.ensures.never_fall }

pub returns-in-Err-clause-cause : goal.returns-in-Err-clause-cause
returns-in-Err-clause-cause g c =
    FailedAt-read ℕ (g.F.Files.faults c.args.files.now) (g.F.Files.faults c.read.new.self) c.args.name.now c.read-in-Err.result c.read-in-Err.ensures c.in-Err.ensures.cause
