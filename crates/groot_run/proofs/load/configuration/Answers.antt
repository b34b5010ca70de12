use Rattle.std.proofs.Common.{subst}
use Rattle.config_load.specs.Conf.{conf_within}
use Rattle.config_load.specs.declared.limits.Limits.{Limits}
use Rattle.net_model.specs.declared.config.Config.{Config}
use Rattle.run_endings.specs.Ends.{EndsWithout}
use Rattle.run_endings.proofs.AsAsked.{not_loaded}
use Rattle.groot_run.proofs.load.configuration.Goals as goal

pub returns-in-Err-clause-err : goal.returns-in-Err-clause-err
returns-in-Err-clause-err g c =
    let told = g.F.Files.told c.load_within.new.files in
    let before = g.F.Files.faults c.args.files.now in
    let after = g.F.Files.faults c.load_within.new.files in
    let meta = c.args.meta.now in
    subst (λ (limits : Limits). EndsWithout {T = Config} meta (conf_within limits meta) told before after c.not_loaded.result) c.limits_of.ensures
    (not_loaded meta (conf_within c.limits_of.result meta) told before after c.not_loaded.result c.in-Err.fault c.in-Err.ensures.gives c.in-Err.ensures.order c.in-Err.ensures.cause c.not_loaded.ensures)
