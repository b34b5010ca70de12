use Rattle.std.proofs.Common.{◌≡◌, List, IfOk, subst}
use Rattle.net_model.specs.declared.config.Config.{Config}
use Rattle.config_load.specs.declared.loaded.RowFiles.{RowFiles}
use Rattle.map_run.specs.Chain.{chain_of}
use Rattle.map_run.specs.declared.lines.Line.{Line}
use Rattle.map_run.proofs.chain.chain_of.Goals as goal

pub returns : goal.returns
returns c =
    subst (λ (config : Config). IfOk c.chain_among.result (λ (lines : List Line). lines ≡ chain_of (record { config = config; rows = c.args.all.now.rows }))) c.in_ok-hosts.ensures
    (subst (λ (rows : List RowFiles). IfOk c.chain_among.result (λ (lines : List Line). lines ≡ chain_of (record { config = c.in_ok-hosts.hosts; rows = rows }))) c.items.ensures c.chain_among.ensures)
