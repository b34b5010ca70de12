use Rattle.std.proofs.Common.{◌∙◌}
use Rattle.groot_run.proofs.load.last_configuration.Goals as goal

pub returns-clause-ok : goal.returns-clause-ok
returns-clause-ok g c = rw (c.let_go_of_all.ensures.told) c.configuration-config.ensures.ok

pub returns-clause-err : goal.returns-clause-err
returns-clause-err g c = rw (c.let_go_of_all.ensures.told, c.let_go_of_all.ensures.faults) c.configuration-config.ensures.err

pub returns-clause-stays : goal.returns-clause-stays
returns-clause-stays g c = rw (c.let_go_of_all.ensures.told) c.configuration-config.ensures.stays

pub returns-clause-never_fall : goal.returns-clause-never_fall
returns-clause-never_fall g c = rw (c.let_go_of_all.ensures.faults) c.configuration-config.ensures.never_fall

pub returns-clause-from_the_start : goal.returns-clause-from_the_start
returns-clause-from_the_start g c all = c.let_go_of_all.ensures.told ∙ c.configuration-config.ensures.from_the_start all

pub returns-clause-opens : goal.returns-clause-opens
returns-clause-opens g c = rw (c.let_go_of_all.ensures.told) c.configuration-config.ensures.opens
