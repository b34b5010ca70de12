use Rattle.std.proofs.Common.{◌≡◌, ◌⊎◌, subst}
use Rattle.net_model.specs.declared.config.Config.{Config}
use Rattle.run_endings.specs.Endings.{no_memory}
use Rattle.groot_run.specs.Outcome.{Asks}
use Rattle.groot_run.proofs.ask.ask.Goals as goal

pub returns-in-Ok : goal.returns-in-Ok
returns-in-Ok c =
    subst (λ (config : Config). Asks c.args.name.now c.args.rtype config c.ask_at.result ⊎ (c.ask_at.result ≡ no_memory)) c.in-Ok.ensures c.ask_at.ensures
