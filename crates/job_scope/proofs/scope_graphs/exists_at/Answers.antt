use Rattle.std.proofs.Common.{◌∙◌, sym}
use Rattle.net_model.specs.Zone.{exists_in}
use Rattle.job_scope.proofs.BaseScopes.{exists_where_found, looked_up_is_base}
use Rattle.job_scope.proofs.scope_graphs.exists_at.Goals as goal

pub returns-in-Some : goal.returns-in-Some
returns-in-Some c = λ found.
    let zone = c.in-Some.tree.now.zone in
    looked_up_is_base c.args.hosts.now c.args.name.now c.args.server.now zone (sym c.in-Some.ensures.zone)
    (exists_where_found c.node_at.result (exists_in zone c.args.name.now) c.node_at.ensures.none (sym c.is_some.ensures ∙ found))
