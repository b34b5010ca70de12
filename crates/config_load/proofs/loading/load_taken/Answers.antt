use Rattle.io_edges.proofs.Told.{TellsAll-same}
use Rattle.config_load.specs.Conf.{conf_unless, row_skips}
use Rattle.config_load.proofs.LeftAnswers.{gives_left, left_cause, left_misses, left_order, left_unknown}
use Rattle.config_load.proofs.Opens.{OpensNoOther-answers}
use Rattle.config_load.proofs.Steady.{Gives-later, conf_unless_is_steady}
use Rattle.config_load.proofs.loading.load_taken.Goals as goal

pub returns-clause-gives : goal.returns-clause-gives
returns-clause-gives g c = gives_left (g.F.Files.told c.read_taken.new.files) (λ answer gives. gives) c.read_taken.result c.read_taken.ensures

pub returns-clause-later : goal.returns-clause-later
returns-clause-later g c later more =
    gives_left later (λ answer gives. Gives-later (conf_unless_is_steady (row_skips (g.T.ZoneTaker.skips c.args.taker.now)) c.args.limits c.args.meta.now) (g.F.Files.told c.read_taken.new.files) later answer more gives) c.read_taken.result c.read_taken.ensures

pub returns-clause-cause : goal.returns-clause-cause
returns-clause-cause g c = left_cause c.read_taken.result c.read_taken.ensures

pub returns-clause-order : goal.returns-clause-order
returns-clause-order g c = left_order c.read_taken.result c.read_taken.ensures

pub returns-clause-misses : goal.returns-clause-misses
returns-clause-misses g c = left_misses c.read_taken.result c.read_taken.ensures

pub returns-clause-unknown : goal.returns-clause-unknown
returns-clause-unknown g c = left_unknown c.read_taken.result c.read_taken.ensures

pub returns-clause-stays : goal.returns-clause-stays
returns-clause-stays g c = c.read_taken.ensures.answered.source.stays

pub returns-clause-from_the_start : goal.returns-clause-from_the_start
returns-clause-from_the_start g c all =
    TellsAll-same (g.F.Files.told c.args.files.now) (g.F.Files.told c.read_taken.new.files) all c.read_taken.ensures.answered.source.stays

pub returns-clause-opens : goal.returns-clause-opens
returns-clause-opens g c =
    OpensNoOther-answers (conf_unless (row_skips (g.T.ZoneTaker.skips c.args.taker.now)) c.args.limits c.args.meta.now) (g.F.Files.told c.args.files.now) (g.F.Files.told c.read_taken.new.files) c.read_taken.ensures.answered.source.opens

pub returns-clause-never_fall : goal.returns-clause-never_fall
returns-clause-never_fall g c = c.read_taken.ensures.answered.source.never_fall
