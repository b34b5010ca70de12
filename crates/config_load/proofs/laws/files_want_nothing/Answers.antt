use Rattle.config_load.specs.Conf.{conf_within}
use Rattle.config_load.specs.declared.fault.LoadFault.TheVariants.{Read, NoMemory}
use Rattle.config_load.proofs.OwnRefusals.{conf_own, not-refused}
use Rattle.config_load.proofs.laws.files_want_nothing.Goals as goal

pub returns-clause-read : goal.returns-clause-read
returns-clause-read c limits meta told file = not-refused (conf_within limits meta told) (Read file) (conf_own limits meta told) (λ own. own)

pub returns-clause-memory : goal.returns-clause-memory
returns-clause-memory c limits meta told = not-refused (conf_within limits meta told) NoMemory (conf_own limits meta told) (λ own. own)
