use Rattle.std.proofs.Common.{List, ◌≡◌, subst}
use Rattle.std.specs.Prelude.{◌⊎◌}
use Rattle.net_model.specs.declared.config.Config.{Config}
use Rattle.run_endings.specs.Endings.{no_memory}
use Rattle.config_load.specs.declared.loaded.RowFiles.{RowFiles}
use Rattle.map_run.specs.Aliases.{IsAliases}
use Rattle.map_run.proofs.aliases.aliases_ending.Goals as goal

pub returns-in-Ok : goal.returns-in-Ok
returns-in-Ok c =
    subst (λ (config : Config). IsAliases (record { config = config; rows = c.args.all.now.rows }) c.aliases_by_trees.result ⊎ (c.aliases_by_trees.result ≡ no_memory)) c.in-Ok.ensures
    (subst (λ (rows : List RowFiles). IsAliases (record { config = c.in-Ok.hosts; rows = rows }) c.aliases_by_trees.result ⊎ (c.aliases_by_trees.result ≡ no_memory)) c.items.ensures c.aliases_by_trees.ensures)
