use Rattle.io_edges.proofs.Told.{TellsAll-same}
use Rattle.config_load.specs.Conf.{loaded_within}
use Rattle.config_load.proofs.Answered.{Gives-answers, FailedWhereItCame-answers, IsReadFault-misses, IsReadFault-unknown}
use Rattle.config_load.proofs.Opens.{OpensNoOther-answers}
use Rattle.config_load.proofs.Steady.{Gives-later, loaded_is_steady}
use Rattle.config_load.proofs.loading.load_with_files.Goals as goal

pub returns-clause-gives : goal.returns-clause-gives
returns-clause-gives g c =
    Gives-answers (g.F.Files.told c.read_loaded.new.files) (loaded_within c.args.limits c.args.meta.now) c.read_loaded.result c.read_loaded.ensures.answers

pub returns-clause-later : goal.returns-clause-later
returns-clause-later g c later more =
    Gives-later (loaded_is_steady c.args.limits c.args.meta.now) (g.F.Files.told c.read_loaded.new.files) later c.read_loaded.result more
    (Gives-answers (g.F.Files.told c.read_loaded.new.files) (loaded_within c.args.limits c.args.meta.now) c.read_loaded.result c.read_loaded.ensures.answers)

pub returns-clause-order : goal.returns-clause-order
returns-clause-order g c =
    FailedWhereItCame-answers (g.F.Files.told c.read_loaded.new.files) (loaded_within c.args.limits c.args.meta.now) c.read_loaded.result c.read_loaded.ensures.answers

pub returns-clause-misses : goal.returns-clause-misses
returns-clause-misses g c file is =
    let told = g.F.Files.told c.read_loaded.new.files in
    IsReadFault-misses (loaded_within c.args.limits c.args.meta.now told) file c.read_loaded.result is (Gives-answers told (loaded_within c.args.limits c.args.meta.now) c.read_loaded.result c.read_loaded.ensures.answers)

pub returns-clause-unknown : goal.returns-clause-unknown
returns-clause-unknown g c file is =
    let told = g.F.Files.told c.read_loaded.new.files in
    IsReadFault-unknown (loaded_within c.args.limits c.args.meta.now told) file c.read_loaded.result is (Gives-answers told (loaded_within c.args.limits c.args.meta.now) c.read_loaded.result c.read_loaded.ensures.answers)

pub returns-clause-from_the_start : goal.returns-clause-from_the_start
returns-clause-from_the_start g c all =
    TellsAll-same (g.F.Files.told c.args.files.now) (g.F.Files.told c.read_loaded.new.files) all c.read_loaded.ensures.source.stays

pub returns-clause-opens : goal.returns-clause-opens
returns-clause-opens g c =
    OpensNoOther-answers (loaded_within c.args.limits c.args.meta.now) (g.F.Files.told c.args.files.now) (g.F.Files.told c.read_loaded.new.files) c.read_loaded.ensures.source.opens

pub returns-clause-cause : goal.returns-clause-cause
returns-clause-cause g c = c.read_loaded.ensures.cause

pub returns-clause-stays : goal.returns-clause-stays
returns-clause-stays g c = c.read_loaded.ensures.source.stays

pub returns-clause-never_fall : goal.returns-clause-never_fall
returns-clause-never_fall g c = c.read_loaded.ensures.source.never_fall
