use Rattle.std.proofs.Common.{List, Ok, Err, subst}
use Rattle.site_checks.specs.Views.{Site}
use Rattle.groot_run.specs.ScopeTexts.{TellsScope}
use Rattle.groot_run.proofs.scopes.judged_with.Goals as goal

pub returns-in-Ok-clause-text : goal.returns-in-Ok-clause-text
returns-in-Ok-clause-text g c =
    subst (λ (sites : List Site). TellsScope c.args.limit g.N.Naming.subject sites (Ok c.in-Ok.text)) c.own_checks-own.ensures c.in-Ok.ensures

pub returns-clause-err : goal.returns-clause-err
returns-clause-err g c =
    subst (λ (sites : List Site). TellsScope c.args.limit g.N.Naming.subject sites (Err c.in-Err.ending)) c.own_checks-own.ensures c.in-Err.ensures
