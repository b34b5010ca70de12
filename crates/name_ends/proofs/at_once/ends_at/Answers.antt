use Rattle.name_ends.proofs.WalksAtOnce.{refers_if}
use Rattle.name_ends.proofs.at_once.ends_at.Goals as goal

pub returns-in-Refers : goal.returns-in-Refers
returns-in-Refers c =
    refers_if c.args.hosts.now c.args.name.now c.args.server.now c.in-Refers.tree c.in-Refers.cut c.in-Refers.ensures _ c.name_servers.ensures
    c.unhosted_at.result c.unhosted_at.ensures
