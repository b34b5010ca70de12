use Rattle.std.proofs.Common.{Result, Ok, refl, ap}
use Rattle.net_model.specs.declared.config.Config.{Config}
use Rattle.config_load.specs.Conf.{row_skips}
use Rattle.config_load.specs.declared.fault.LoadFault.{LoadFault}
use Rattle.config_load.specs.declared.loaded.Loaded.{Loaded}
use Rattle.config_load.proofs.LeftRows.{left_fault, of_fault, of_value}
use Rattle.config_load.proofs.ReadRows.{HasAnswered-no_config, HasAnswered-config}
use Rattle.config_load.proofs.loading.read_taken.Goals as goal

pub returns-in_err-all : goal.returns-in_err-all
returns-in_err-all g c =
    left_fault c.from_residual.result c.in_err-all.field-0.0 c.from_residual.ensures.1
    (HasAnswered-no_config (row_skips (g.T.ZoneTaker.skips c.args.taker.now)) c.args.limits c.args.meta.now c.in_err-all.field-0.0 c.from_residual.result c.from_residual.ensures.1 (of_fault c.in_err-all.field-0.0 c.in_err-all.ensures))

pub returns : goal.returns
returns g c =
    let (all, answered, is, taken) = of_value c.in_ok-all.all c.in_ok-all.ensures in
    let answer : Result Config LoadFault = Ok all.config in
    record {
      whole = answer;
      answered = HasAnswered-config (row_skips (g.T.ZoneTaker.skips c.args.taker.now)) c.args.limits c.args.meta.now all answered;
      is = (all.config, refl, ap (λ (one : Loaded). one.config) is, taken);
    }
