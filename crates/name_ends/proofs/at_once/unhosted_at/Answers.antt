use Rattle.std.proofs.Common.{sym, ap, ◌∙◌, arith}
use Rattle.std.proofs.lemmas.Bool.Decides.{nat_tests}
use Rattle.name_ends.specs.AtOnce.{seen_alike}
use Rattle.name_ends.specs.declared.ends.TypeEnds.{TypeEnds}
use Rattle.name_ends.proofs.WalksAtOnce.{refers_outside}
use Rattle.name_ends.proofs.at_once.unhosted_at.Goals as goal

pub returns : goal.returns
returns c =
    refers_outside c.args.hosts.now c.args.names.now c.alike.result (sym c.some_configured.ensures ∙ c.if-some_configured.false)
    (grind (arith, nat_tests, c.if-names-gt-MOST_SERVERS.false))
    (c.alike.ensures ∙ ap (λ (ends : TypeEnds). seen_alike ends) c.by_servers.ensures)
