use Rattle.std.proofs.Common.{sym, ◌∙◌}
use Rattle.zone_rules.proofs.Before.{passed-stands}
use Rattle.zone_rules.proofs.rules.Before.check.Goals as goal

pub returns-then-not-watched-clause-before : goal.returns-then-not-watched-clause-before
returns-then-not-watched-clause-before c = λ may_have before is stands.
    passed-stands may_have c.args.self.now before c.args.rr.now (sym c.if-not-has_rival.true ∙ is) (sym c.requires ∙ c.if-not-watched.true) stands
