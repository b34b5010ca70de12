use Rattle.std.proofs.Common.{sym, ◌∙◌}
use Rattle.dns_data.proofs.Names.{name_eq_decides}
use Rattle.query_verdicts.proofs.known_classes.is_of.Goals as goal

pub returns-then-one-octets : goal.returns-then-one-octets
returns-then-one-octets c = λ yes. ((name_eq_decides c.args.one.now.above c.args.above.now).0 (sym c.eq.ensures ∙ yes), c.if-one-octets.true)
