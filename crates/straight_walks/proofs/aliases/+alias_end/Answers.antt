use Rattle.std.proofs.Common.{arith}
use Rattle.std.proofs.lemmas.Option.{IfSome_then}
use Rattle.straight_walks.proofs.AliasEnds.{leads_on, leads_past, leads_to_nothing, leads_to_records}
use Rattle.straight_walks.proofs.aliases.+alias_end.Goals as goal

pub returns-then-used-limit : goal.returns-then-used-limit
returns-then-used-limit t c = leads_past c.args.hosts.now c.args.alias c.args.target.now c.args.used c.args.limit (omega (arith, c.if-used-limit.true))

pub returns-in-Records : goal.returns-in-Records
returns-in-Records t c = leads_to_records c.args.hosts.now c.args.alias c.args.target.now c.args.used c.in-Records.tree c.in-Records.owner c.in-Records.ensures

pub returns-in-Nothing : goal.returns-in-Nothing
returns-in-Nothing t c = leads_to_nothing c.args.hosts.now c.args.alias c.args.target.now c.args.used c.in-Nothing.tree c.in-Nothing.ensures

pub returns-in-Alias : goal.returns-in-Alias
returns-in-Alias t c =
    IfSome_then c.alias_end.result c.alias_end.ensures
    (λ end on.
    leads_on c.args.hosts.now c.args.alias c.args.target.now c.args.used c.in-Alias.tree c.in-Alias.owner c.in-Alias.further c.in-Alias.ensures c.of_owner-next.result c.of_owner-next.ensures end on)
