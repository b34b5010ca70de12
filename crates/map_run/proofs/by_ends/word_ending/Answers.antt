use Rattle.std.proofs.Common.{List, ◌≡◌, subst}
use Rattle.std.specs.Prelude.{◌⊎◌}
use Rattle.net_model.specs.declared.config.Config.{Config}
use Rattle.run_endings.specs.Endings.{no_memory}
use Rattle.config_load.specs.declared.loaded.RowFiles.{RowFiles}
use Rattle.map_run.specs.Asked.{GivenByEnds}
use Rattle.map_run.specs.EndsWords.{lines_by}
use Rattle.map_run.proofs.by_ends.word_ending.Goals as goal

pub returns-in-Ok : goal.returns-in-Ok
returns-in-Ok c =
    subst (λ (config : Config). GivenByEnds config (lines_by c.args.word (record { config = config; rows = c.args.all.now.rows })) c.word_by_trees.result ⊎ (c.word_by_trees.result ≡ no_memory)) c.in-Ok.ensures
    (subst (λ (rows : List RowFiles). GivenByEnds c.in-Ok.hosts (lines_by c.args.word (record { config = c.in-Ok.hosts; rows = rows })) c.word_by_trees.result ⊎ (c.word_by_trees.result ≡ no_memory)) c.items.ensures c.word_by_trees.ensures)
