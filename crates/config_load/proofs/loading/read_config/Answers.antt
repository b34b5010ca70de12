use Rattle.config_load.specs.Conf.{no_row}
use Rattle.config_load.proofs.ReadRows.{HasAnswered-no_config, HasAnswered-config}
use Rattle.config_load.proofs.loading.read_config.Goals as goal

pub returns-in_err-all : goal.returns-in_err-all
returns-in_err-all g c =
    HasAnswered-no_config no_row c.args.limits c.args.meta.now c.in_err-all.field-0.0 c.from_residual.result c.from_residual.ensures.1 c.in_err-all.ensures

pub returns : goal.returns
returns g c = HasAnswered-config no_row c.args.limits c.args.meta.now c.in_ok-all.all c.in_ok-all.ensures
