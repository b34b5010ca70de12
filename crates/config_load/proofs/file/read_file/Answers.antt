use Rattle.io_edges.proofs.Told.{TellsAll-same}
use Rattle.config_load.specs.Reading.{file_octets}
use Rattle.config_load.proofs.Answered.{Gives-answers, FailedWhereItCame-answers}
use Rattle.config_load.proofs.Opens.{OpensNoOther-answers}
use Rattle.config_load.proofs.Steady.{Gives-later, file_is_steady}
use Rattle.config_load.proofs.file.read_file.Goals as goal

pub returns-clause-gives : goal.returns-clause-gives
returns-clause-gives g c =
    Gives-answers (g.F.Files.told c.read_whole.new.files) (file_octets c.args.limits c.args.name.now) c.read_whole.result c.read_whole.ensures.answers

pub returns-clause-later : goal.returns-clause-later
returns-clause-later g c later more =
    Gives-later (file_is_steady c.args.limits c.args.name.now) (g.F.Files.told c.read_whole.new.files) later c.read_whole.result more
    (Gives-answers (g.F.Files.told c.read_whole.new.files) (file_octets c.args.limits c.args.name.now) c.read_whole.result c.read_whole.ensures.answers)

pub returns-clause-order : goal.returns-clause-order
returns-clause-order g c =
    FailedWhereItCame-answers (g.F.Files.told c.read_whole.new.files) (file_octets c.args.limits c.args.name.now) c.read_whole.result c.read_whole.ensures.answers

pub returns-clause-from_the_start : goal.returns-clause-from_the_start
returns-clause-from_the_start g c all =
    TellsAll-same (g.F.Files.told c.args.files.now) (g.F.Files.told c.read_whole.new.files) all c.read_whole.ensures.source.stays

pub returns-clause-opens : goal.returns-clause-opens
returns-clause-opens g c =
    OpensNoOther-answers (file_octets c.args.limits c.args.name.now) (g.F.Files.told c.args.files.now) (g.F.Files.told c.read_whole.new.files) c.read_whole.ensures.source.opens

pub returns-clause-cause : goal.returns-clause-cause
returns-clause-cause g c = c.read_whole.ensures.cause

pub returns-clause-stays : goal.returns-clause-stays
returns-clause-stays g c = c.read_whole.ensures.source.stays

pub returns-clause-never_fall : goal.returns-clause-never_fall
returns-clause-never_fall g c = c.read_whole.ensures.source.never_fall
